-- What `judge` does.
use Rattle.std.specs.Prelude.{◌≡◌, Result, Ok, Err}
use Rattle.wsn_wire.specs.declared.endpoint.Role.{Role}
use Rattle.wsn_io.specs.Transfer.{Incoming, Outgoing, IsWritten, IsPartlyWritten}
use Rattle.wsn_rules.specs.declared.verdict.Verdict.{Verdict}
use Rattle.wsn_rules.specs.Limits.{Limits}
use Rattle.wsn_print.specs.declared.format.Format.{Format}
use Rattle.wsn_print.specs.Formats.{verdict_text}
use Rattle.wsn_io.specs.declared.stop.Stop.{Stop}
use Rattle.wsn_io.specs.declared.stop.Stop.TheVariants as stop
use Rattle.wsn_scan.specs.Judging.{IsJudged}

-- The verdict was printed, in this format; before a stop, nothing was. If a write failed, there is a verdict, and a
-- prefix of its line was printed.
abbrev pub IsVerdictPrinted :
    Format → Role → Limits → Incoming → Incoming → Outgoing → Outgoing → Result Verdict Stop → Type 0
IsVerdictPrinted format role limits old new before after (Ok verdict) =
    IsJudged role limits old new (Ok verdict) × IsWritten before after (verdict_text format verdict)
IsVerdictPrinted format role limits old new before after (Err stop.Write) =
    (verdict : Verdict) × IsJudged role limits old new (Ok verdict)
    × IsPartlyWritten before after (verdict_text format verdict)
IsVerdictPrinted format role limits old new before after (Err stopped) =
    IsJudged role limits old new (Err stopped) × (after ≡ before)
