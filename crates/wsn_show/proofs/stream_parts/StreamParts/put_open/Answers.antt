use Rattle.std.proofs.Common.{◌≡◌, ℕ, ◌<◌, length, sym, ap, ◌∙◌, subst, arith}
use Rattle.wsn_rules.specs.Group.{unfinished, kind_of, payload_of}
use Rattle.wsn_rules.specs.Meaning.{Message}
use Rattle.wsn_rules.specs.ShownStream.{open_item}
use Rattle.wsn_rules.specs.ShownStream.Item.{Unfinished}
use Rattle.wsn_rules.proofs.Groups.{group_of_lawful}
use Rattle.wsn_show.specs.ShownItems.{Prints}
use Rattle.wsn_show.proofs.HeldItems.{open_is, none_is, group_some, represents_open}
use Rattle.wsn_show.proofs.TextsSoFar.{text_payload}
use Rattle.wsn_show.proofs.PrintedItems.{prints_nothing}
use Rattle.wsn_show.proofs.stream_parts.StreamParts.put_open.Goals as goal

pub returns-then-self-gt0 : goal.returns-then-self-gt0
returns-then-self-gt0 g c role limits fs part lawful kept =
    let some : 0 < length (unfinished fs) = let frames = kept.frames in let more = c.if-self-gt0.true in omega (arith, frames, more) in
    let message = c.args.self.now.message in
    let represents = represents_open role limits c.args.context.now.style.view c.complete_part.result message fs part lawful some kept c.complete_part.ensures.op c.complete_part.ensures.bytes c.complete_part.ensures.held in
    let text = text_payload (unfinished fs) (group_of_lawful role limits fs lawful).begins in
    let is : open_item fs (unfinished fs) c.args.lacks ≡ Unfinished message.offset (Message (kind_of (unfinished fs)) (payload_of (unfinished fs))) c.complete_part.result.frames c.args.lacks =
    ap (λ (m : ℕ). Unfinished m (Message (kind_of (unfinished fs)) (payload_of (unfinished fs))) (length (unfinished fs)) c.args.lacks) (sym (kept.offset (group_some fs some)))
    ∙ ap (λ (m : ℕ). Unfinished message.offset (Message (kind_of (unfinished fs)) (payload_of (unfinished fs))) m c.args.lacks) (sym (c.complete_part.ensures.frames ∙ kept.frames)) in
    subst (Prints c.args.context.now c.args.output.now c.put_item.new.output) (sym (open_is fs c.args.lacks some))
    (c.put_item.ensures (open_item fs (unfinished fs) c.args.lacks) (Message (kind_of (unfinished fs)) (payload_of (unfinished fs)), represents, text, is))

pub returns-else-self-gt0 : goal.returns-else-self-gt0
returns-else-self-gt0 g c role limits fs part lawful kept =
    let none : length (unfinished fs) ≡ 0 = let frames = kept.frames in let zero_frames = c.if-self-gt0.false in omega (arith, frames, zero_frames) in
    subst (Prints c.args.context.now c.args.output.now c.args.output.now) (sym (none_is fs c.args.lacks none)) (prints_nothing c.args.context.now c.args.output.now)
