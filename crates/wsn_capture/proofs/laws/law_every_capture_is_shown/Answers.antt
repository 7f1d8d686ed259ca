use Rattle.wsn_rules.proofs.EveryCapture.{some_shown_capture}
use Rattle.wsn_capture.proofs.EveryReport.{has_report, sent_bytes}
use Rattle.wsn_capture.proofs.laws.law_every_capture_is_shown.Goals as goal

pub returns : goal.returns
returns c detail limits lines entries range are =
    let report = has_report limits lines entries range are in
    let is = report.1 in
    let shown = some_shown_capture detail limits range lines is.entries report.0 is.given (λ role. sent_bytes role lines is.entries is.given) is.is in
    (shown.0, shown.1, shown.2, report.0, shown.3)
