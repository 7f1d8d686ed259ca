use Rattle.std.proofs.Common.{[]}
use Rattle.wsn_wire.specs.declared.endpoint.Role.TheVariants.{Client, Server}
use Rattle.wsn_rules.specs.Sides.{sent}
use Rattle.wsn_io.proofs.PutTexts.{prints_nothing}
use Rattle.wsn_show.specs.Styles.{styled_left}
use Rattle.wsn_show.proofs.capture_view.CaptureView.finish.Goals as goal

pub returns : goal.returns
returns g c limits style lines entries has =
    let client = c.put_left_at_end.ensures limits style lines entries has in
    let server = c.put_left_at_end-2.ensures limits style lines entries has in
    let is_report = c.report-report.ensures limits lines entries has.accepted has.noted
    (c.verdict.ensures Client limits style (sent Client entries) has.viewed.client) (c.verdict-2.ensures Server limits style (sent Server entries) has.viewed.server) in
    let says = c.put_who_ended.ensures limits style lines entries has is_report in
    record {
      client = client.left;
      server = server.left;
      of_client = client.is_left;
      of_server = server.is_left;
      is_report = is_report;
      ended_by = says.ended_by;
      is_ended_by = says.is_ended_by;
      printed = says.printed c.args.output.now _
          (server.printed c.args.output.now (styled_left style Client client.left)
          (client.printed c.args.output.now [] (prints_nothing c.args.output.now c.requires)));
    }
