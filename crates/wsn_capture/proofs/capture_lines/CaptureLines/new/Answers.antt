use Rattle.std.proofs.Common.{◌≡◌, None, refl, sym, subst, []}
use Rattle.wsn_wire.specs.declared.endpoint.Role.TheVariants.{Client, Server}
use Rattle.wsn_rules.specs.Limits.{Limits}
use Rattle.wsn_capture.specs.declared.capture_lines.CaptureLines.{CaptureLines}
use Rattle.wsn_capture.specs.CaptureLines.{HasNotedCloses}
use Rattle.wsn_capture.specs.CloseLines.{IsCloseLine}
use Rattle.wsn_capture.specs.RefusedLines.{IsRefusedLine}
use Rattle.wsn_capture.proofs.EveryReport.{nothing_closed}
use Rattle.wsn_capture.proofs.OffendingLines.{none_offending}
use Rattle.wsn_capture.proofs.capture_lines.CaptureLines.new.Goals as goal

-- nothing is noted of no lines
nothing_noted : (limits : Limits) (noted : CaptureLines) → noted.client.close_line ≡ None → noted.client.refused ≡ None → noted.server.close_line ≡ None → noted.server.refused ≡ None → HasNotedCloses limits noted []
nothing_noted limits noted client client_refused server server_refused = both
  where
    both : HasNotedCloses limits noted []
    both Client = (
      subst (IsCloseLine Client limits []) (sym client) (nothing_closed Client limits),
      subst (IsRefusedLine Client limits []) (sym client_refused) (none_offending Client limits),
    )
    both Server = (
      subst (IsCloseLine Server limits []) (sym server) (nothing_closed Server limits),
      subst (IsRefusedLine Server limits []) (sym server_refused) (none_offending Server limits),
    )

pub returns-clause-noted : goal.returns-clause-noted
returns-clause-noted c = nothing_noted c.args.limits _ refl refl refl refl
