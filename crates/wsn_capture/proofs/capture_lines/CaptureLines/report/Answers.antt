use Rattle.std.proofs.Common.{Bool, sym, ap, ◌∙◌, subst}
use Rattle.wsn_wire.specs.declared.endpoint.Role.TheVariants.{Client, Server}
use Rattle.wsn_rules.specs.ClosingHandshake.{IsFirst, IsOutcome}
use Rattle.wsn_rules.specs.Sides.{has_ended, side_of}
use Rattle.wsn_capture.specs.SideTexts.{ended_before}
use Rattle.wsn_capture.proofs.ReportedLines.{first_by_lines}
use Rattle.wsn_capture.proofs.capture_lines.CaptureLines.report.Goals as goal

pub returns : goal.returns
returns c = λ limits lines given has noted client server.
    let client_over = c.has_ended-client_ended.ensures ∙ ap (ended_before Client) has.before in
    let server_over = c.has_ended-server_ended.ensures ∙ ap (ended_before Server) has.before in
    record {
      client = (client.0, c.args.client.now, client.1, c.side_of-client.ensures ∙ ap (side_of c.args.client.now) client_over);
      server = (server.0, c.args.server.now, server.1, c.side_of-server.ensures ∙ ap (side_of c.args.server.now) server_over);
      first = subst (IsFirst limits given) (sym c.first_closed.ensures)
          (first_by_lines limits given c.args.self.now.client.close_line c.args.self.now.server.close_line (noted Client).0 (noted Server).0);
      echo = c.echo.ensures;
      client_sees = c.seen.ensures;
      server_sees = c.seen-2.ensures;
      outcome = subst (λ (b : Bool). IsOutcome c.side_of-client.result c.side_of-server.result (has_ended Client given) b c.of.result) server_over
          (subst (λ (b : Bool). IsOutcome c.side_of-client.result c.side_of-server.result b c.has_ended-server_ended.result c.of.result) client_over c.of.ensures);
    }
