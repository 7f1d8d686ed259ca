use Rattle.std.proofs.Common.{subst, rules}
use Rattle.wsn_io.specs.Transfer.{IsWritten, IsPartlyWritten}
use Rattle.wsn_print.specs.declared.style.Style.{Style}
use Rattle.wsn_show.specs.Styles.{styled_report}
use Rattle.wsn_show.proofs.EndedTexts.{stopped_before, reported, stopped_in}
use Rattle.wsn_show.proofs.showing.put_end_of_capture.Goals as goal

pub returns-then-failed : goal.returns-then-failed
returns-then-failed g c limits style first came lines are has =
    stopped_before limits style first came lines are c.args.view.now c.args.output.now has c.finish-report.new.output c.finish-report.result
    (c.finish-report.ensures limits style lines has.entries has.has_shown) (search rules)

pub returns-in-Ok : goal.returns-in-Ok
returns-in-Ok g c limits style first came lines are has =
    reported limits style first came lines are c.args.view.now c.args.output.now has c.finish-report.new.output c.finish-report.result
    (c.finish-report.ensures limits style lines has.entries has.has_shown) c.put_report_as.new.to (search rules)
    c.tails.result (c.tails.ensures limits style lines has.entries has.has_shown)
    c.refused_lines.result (c.refused_lines.ensures limits style lines has.entries has.has_shown)
    (subst (λ (s : Style). IsWritten c.finish-report.new.output c.put_report_as.new.to (styled_report s c.finish-report.result)) (c.style.ensures limits style lines has.entries has.has_shown) (search rules))

pub returns-in-Err : goal.returns-in-Err
returns-in-Err g c limits style first came lines are has =
    stopped_in limits style first came lines are c.args.view.now c.args.output.now has c.finish-report.new.output c.finish-report.result
    (c.finish-report.ensures limits style lines has.entries has.has_shown) c.put_report_as.new.to (search rules)
    (subst (λ (s : Style). IsPartlyWritten c.finish-report.new.output c.put_report_as.new.to (styled_report s c.finish-report.result)) (c.style.ensures limits style lines has.entries has.has_shown) (search rules))
