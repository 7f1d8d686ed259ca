use Rattle.std.proofs.Common.{◌≡◌, [], length, sym, ap, ◌∙◌, subst, arith}
use Rattle.wsn_wire.specs.Frame.{stream}
use Rattle.wsn_rules.specs.ShownStream.Item.{UnfinishedHead}
use Rattle.wsn_show.specs.ShownItems.{Prints}
use Rattle.wsn_show.proofs.PrintedParts.{head_none, head_of_message, head_alone}
use Rattle.wsn_show.proofs.stream_parts.StreamParts.put_head.Goals as goal

pub returns-then-self-eq0 : goal.returns-then-self-eq0
returns-then-self-eq0 g c role limits fs rest lawful kept =
    let none : length rest ≡ 0 = sym kept.frame.size ∙ c.if-self-eq0.true in
    subst (Prints c.args.context.now c.args.output.now c.put_open.new.output) (sym (head_none fs rest none)) (c.put_open.ensures role limits fs [] lawful kept.message)

pub returns-then-self-gt0 : goal.returns-then-self-gt0
returns-then-self-gt0 g c role limits fs rest lawful kept =
    let size = kept.frame.size in
    let frames = kept.message.frames in
    subst (Prints c.args.context.now c.args.output.now c.put_open-then-self-gt0.new.output)
    (sym (head_of_message fs rest (omega (arith, size, c.if-self-eq0.false)) (omega (arith, frames, c.if-self-gt0.true)))) (c.put_open-then-self-gt0.ensures role limits fs [] lawful kept.message)

pub returns-else-self-gt0 : goal.returns-else-self-gt0
returns-else-self-gt0 g c role limits fs rest lawful kept =
    let size = kept.frame.size in
    let frames = kept.message.frames in
    subst (Prints c.args.context.now c.args.output.now c.put_item.new.output)
    (sym (head_alone fs rest (omega (arith, size, c.if-self-eq0.false)) (omega (arith, frames, c.if-self-gt0.false))))
    (c.put_item.ensures (UnfinishedHead (length (stream fs))) (ap UnfinishedHead (sym kept.frame.offset)))
