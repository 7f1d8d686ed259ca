use Rattle.std.proofs.Common.{◌≤◌, min, arith, [], ◌∷◌, ◌++◌, length, sym, ap, ◌∙◌, subst, rules}
use Rattle.wsn_wire.specs.Frame.{stream}
use Rattle.wsn_rules.specs.ShownStream.{interrupted}
use Rattle.wsn_rules.specs.ShownStream.Item.{RefusedFrame}
use Rattle.wsn_show.specs.declared.last_bytes.LastBytes.{LastBytes}
use Rattle.wsn_show.specs.declared.stream_parts.StreamParts.{StreamParts}
use Rattle.wsn_show.specs.HeldParts.{HasLast}
use Rattle.wsn_show.specs.LastPayloads.{character_at}
use Rattle.wsn_show.specs.StreamParts.{held_at}
use Rattle.wsn_show.proofs.HeldItems.{evidence_held}
use Rattle.wsn_show.proofs.PrintedItems.{prints_both}
use Rattle.wsn_show.proofs.stream_parts.StreamParts.refuse.Goals as goal

pub returns-clause-printed : goal.returns-clause-printed
returns-clause-printed g c role limits fs at rest lawful small wrong kept =
    let context = c.args.context.now in
    let refusal = c.args.refusal.now in
    let bytes = c.args.bytes.now in
    let evidence = held_at at rest ++ bytes in
    let character = character_at refusal.reason fs at bytes in
    let same = c.bad_character-character.ensures.others in
    let last = c.add.ensures (held_at at rest) small (subst (λ (l : LastBytes). HasLast l (held_at at rest)) (sym (ap (λ (p : StreamParts). p.last) same)) kept.frame.last) in
    let n = min context.style.view 4096 in
    let few : n ≤ 4096 = omega arith in
    let held = evidence_held n evidence c.add.new.self c.end.result few last c.end.ensures.bytes c.end.ensures.held in
    let offset = ap (λ (p : StreamParts). p.offset) same ∙ kept.frame.offset in
    let is = sym (c.bad_character-character.ensures.character context.style.view fs at rest wrong kept) ∙ sym c.shown_in.ensures in
    prints_both context c.args.output.now c.put_interrupted.new.output c.put_item.new.output (interrupted context.style.detail fs) (RefusedFrame (length (stream fs)) refusal evidence character ∷ [])
    (c.put_interrupted.ensures role limits fs _ lawful kept.message)
    (c.put_item.ensures (RefusedFrame (length (stream fs)) refusal evidence character) (evidence, held, (λ i. RefusedFrame (sym offset i) refusal evidence (is i))))

pub returns-clause-first : goal.returns-clause-first
returns-clause-first g c = search rules
