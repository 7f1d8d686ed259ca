use Rattle.std.proofs.Common.{◌+◌, ℕ, ◌∙◌, ap}
use Rattle.wsn_capture.proofs.AcceptedLines.{accepted_count}
use Rattle.wsn_show.proofs.showing.show_line.Goals as goal

pub returns-in-Err-clause-stop : goal.returns-in-Err-clause-stop
returns-in-Err-clause-stop g c limits style lines entries has =
    (ap (λ (m : ℕ). m + 1) (c.count-number.ensures ∙ accepted_count limits c.args.view.now.lines lines entries has.accepted), c.in-Err.ensures.fault limits style lines entries has, c.in-Err.ensures.unchanged.1)
