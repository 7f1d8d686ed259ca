use Rattle.std.proofs.Common.{[], Some, sym, ap, subst}
use Rattle.std.proofs.lemmas.Bool.{cond-true, cond-false}
use Rattle.wsn_rules.specs.Summary.{is_close}
use Rattle.wsn_rules.specs.ShownStream.{open_items}
use Rattle.wsn_show.specs.ShownItems.{Prints}
use Rattle.wsn_show.proofs.PrintedItems.{prints_nothing}
use Rattle.wsn_scan.proofs.ScanVerdicts.{other_op}
use Rattle.wsn_show.proofs.stream_parts.StreamParts.put_before_close.Goals as goal

pub returns-in-Close : goal.returns-in-Close
returns-in-Close g c role limits fs part lawful kept =
    subst (Prints c.args.context.now c.args.output.now c.put_open.new.output) (sym (cond-true (is_close c.args.op) (open_items fs (Some 0)) [] (ap is_close c.in-Close.is)))
    (c.put_open.ensures role limits fs part lawful kept)

pub returns-in_default : goal.returns-in_default
returns-in_default g c role limits fs part lawful kept =
    subst (Prints c.args.context.now c.args.output.now c.args.output.now) (sym (cond-false (is_close c.args.op) (open_items fs (Some 0)) [] (other_op c.args.op c.in_default.not-Close)))
    (prints_nothing c.args.context.now c.args.output.now)
