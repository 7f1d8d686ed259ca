use Rattle.std.proofs.Common.{◌+◌, ℕ, List, ap, ◌∙◌, subst}
use Rattle.wsn_capture.specs.LineFaults.{IsFaultAfter}
use Rattle.wsn_capture.proofs.AcceptedLines.{accepted_count}
use Rattle.wsn_capture.proofs.line_splitter.LineSplitter.end_line.Goals as goal

pub returns-in-Err-clause-stop : goal.returns-in-Err-clause-stop
returns-in-Err-clause-stop c = λ limits lines has.
    let number = c.count-number.ensures ∙ accepted_count limits c.args.self.now.capture.lines lines has.entries has.accepted in
    (ap (λ (n : ℕ). n + 1) number, subst (λ (bs : List ℕ). IsFaultAfter limits lines bs c.in-Err.fault) c.line.ensures (c.in-Err.ensures.fault limits lines has))
