use Rattle.std.proofs.Common.{◌≡◌, Result, Err, sym, ap, ◌∙◌, subst}
use Rattle.std.proofs.lemmas.Result.{err_from_is_err_and}
use Rattle.wsn_capture.specs.declared.capture_report.CaptureReport.{CaptureReport}
use Rattle.wsn_capture.proofs.SplitLines.{empty_is, not_empty}
use Rattle.wsn_show.specs.declared.showing.ShowStop.{ShowStop}
use Rattle.wsn_show.specs.PassedLines.{EndsShowing}
use Rattle.wsn_show.proofs.EndedTexts.{no_more_lines, all_printed, with_last, last_printed, last_stops}
use Rattle.wsn_show.proofs.showing.end.Goals as goal

pub returns-then-is_empty : goal.returns-then-is_empty
returns-then-is_empty g c limits style first came has =
    let none = empty_is c.args.last.now (sym c.is_empty.ensures ∙ c.if-is_empty.true) in
    c.put_end_of_capture.ensures limits style first came has.lines
    (no_more_lines limits style first c.args.view.now c.args.last.now c.args.output.now came has none)
    (all_printed limits style first c.args.view.now c.args.last.now c.args.output.now came has)

pub returns-in_err-show_line : goal.returns-in_err-show_line
returns-in_err-show_line g c limits style first came has =
    let out = err_from_is_err_and c.from_residual.result c.from_residual.ensures.1 in
    let is : c.from_residual.result ≡ Err c.in_err-show_line.field-0.0 = out.1 ∙ ap Err out.2 in
    let some = not_empty c.args.last.now (sym c.is_empty.ensures ∙ c.if-is_empty.false) in
    subst (λ (r : Result CaptureReport ShowStop). EndsShowing limits style first c.show_line.new.output came r) (sym is)
    (last_stops limits style first c.args.view.now c.args.last.now c.args.output.now came has some c.show_line.new.view c.show_line.new.output c.in_err-show_line.field-0.0
    (c.in_err-show_line.ensures.stop limits style has.lines has.entries has.has_shown))

pub returns : goal.returns
returns g c limits style first came has =
    let some = not_empty c.args.last.now (sym c.is_empty.ensures ∙ c.if-is_empty.false) in
    c.put_end_of_capture-2.ensures limits style first came _
    (with_last limits style first c.args.view.now c.args.last.now c.args.output.now came has some c.show_line.new.view c.show_line.new.output)
    (last_printed limits style first c.args.view.now c.args.last.now c.args.output.now came has some c.show_line.new.view c.show_line.new.output
    (c.in_ok-show_line.ensures.shown limits style has.lines has.entries has.has_shown) c.in_ok-show_line.ensures.writable)
