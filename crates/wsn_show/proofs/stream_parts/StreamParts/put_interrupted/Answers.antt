use Rattle.std.proofs.Common.{sym, subst}
use Rattle.wsn_rules.specs.declared.detail.Detail.{Detail}
use Rattle.wsn_rules.specs.ShownStream.{interrupted}
use Rattle.wsn_show.specs.ShownItems.{Prints}
use Rattle.wsn_show.proofs.PrintedItems.{prints_nothing}
use Rattle.wsn_show.proofs.stream_parts.StreamParts.put_interrupted.Goals as goal

pub returns-in-Events : goal.returns-in-Events
returns-in-Events g c role limits fs part lawful kept =
    subst (λ (d : Detail). Prints c.args.context.now c.args.output.now c.put_open.new.output (interrupted d fs)) (sym c.in-Events.is)
    (c.put_open.ensures role limits fs part lawful kept)

pub returns-in-Frames : goal.returns-in-Frames
returns-in-Frames g c role limits fs part lawful kept =
    subst (λ (d : Detail). Prints c.args.context.now c.args.output.now c.args.output.now (interrupted d fs)) (sym c.in-Frames.is)
    (prints_nothing c.args.context.now c.args.output.now)
