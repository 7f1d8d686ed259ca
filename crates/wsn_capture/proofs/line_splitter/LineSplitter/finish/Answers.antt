use Rattle.std.proofs.Common.{ℕ, ◌==◌, List, length, Result, Err, sym, ◌∙◌, subst, rules, ap}
use Rattle.std.proofs.lemmas.Result.{err_from_is_err_and}
use Rattle.wsn_capture.specs.declared.capture_report.CaptureReport.{CaptureReport}
use Rattle.wsn_capture.specs.declared.capture_stop.CaptureStop.{CaptureStop}
use Rattle.wsn_capture.specs.CaptureAnswers.{IsCaptureAnswerOf}
use Rattle.wsn_capture.proofs.SplitLines.{reported_whole, reported_last, stop_last, empty_is, not_empty}
use Rattle.wsn_capture.proofs.line_splitter.LineSplitter.finish.Goals as goal

pub returns-then-is_empty : goal.returns-then-is_empty
returns-then-is_empty c limits came split =
    reported_whole limits split.lines c.args.self.begun came split.passed split.accepted.entries c.report.result (empty_is c.args.self.begun (ap (λ (bs : List ℕ). length bs == 0) (sym c.line.ensures) ∙ sym c.is_empty.ensures ∙ c.if-is_empty.true)) split.accepted.accepted.taken (c.report.ensures.report limits split.lines split.accepted)
    (c.report.ensures.tails limits split.lines split.accepted) (c.report.ensures.refused limits split.lines split.accepted)

pub returns-in_err-end_line : goal.returns-in_err-end_line
returns-in_err-end_line c limits came split =
    let out = err_from_is_err_and c.from_residual.result c.from_residual.ensures.1 in
    subst (λ (r : Result CaptureReport CaptureStop). IsCaptureAnswerOf limits came r) (sym (out.1 ∙ ap Err out.2))
    (stop_last limits split.lines c.args.self.begun came split.passed c.in_err-end_line.field-0.0 (not_empty c.args.self.begun (ap (λ (bs : List ℕ). length bs == 0) (sym c.line.ensures) ∙ sym c.is_empty.ensures ∙ c.if-is_empty.false)) (c.in_err-end_line.ensures.stop limits split.lines split.accepted))

pub returns : goal.returns
returns c limits came split =
    let has = c.in_ok-end_line.ensures.taken limits split.lines split.accepted in
    reported_last limits split.lines c.args.self.begun came split.passed has.entries c.report-2.result (not_empty c.args.self.begun (ap (λ (bs : List ℕ). length bs == 0) (sym c.line.ensures) ∙ sym c.is_empty.ensures ∙ c.if-is_empty.false)) has.accepted.taken (c.report-2.ensures.report limits _ has)
    (c.report-2.ensures.tails limits _ has) (c.report-2.ensures.refused limits _ has)

pub is_empty-requires : goal.is_empty-requires
is_empty-requires c = search rules

pub end_line-requires : goal.end_line-requires
end_line-requires c = search rules
