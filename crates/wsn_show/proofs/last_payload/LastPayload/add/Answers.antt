use Rattle.std.proofs.Common.{rules, ◌≡◌, ℕ, ◌+◌, ◌-◌, List, ◌∷◌, [], ◌++◌, length, take, drop, get_or, refl, sym, ap, ◌∙◌, subst, append_assoc, arith, length-drop}
use Rattle.std.proofs.lemmas.Grind.{common_steps}
use Rattle.std.proofs.lemmas.List.{take_all}
use Rattle.wsn_rules.specs.BadCharacter.{PlacedByte, placed}
use Rattle.wsn_show.specs.LastPayloads.{HasLastPayload}
use Rattle.wsn_show.proofs.LastPayloads.{placed_push, skipping, with_last}
use Rattle.wsn_show.proofs.last_payload.LastPayload.add.Goals as goal

pub loop-index-preserved : goal.loop-index-preserved
loop-index-preserved c =
    let i = c.loop-index.index in
    let bytes = c.args.bytes.now in
    let skipped = c.saturating_sub-skipped.result in
    let place = c.saturating_sub-offset.result in
    let offset_is = c.saturating_sub-offset.ensures in
    let within = c.loop-index-test.true in
    let before = c.loop-index.invariant in (
      let from = before.0 in omega (arith, from),
      λ came offset end has.
          let more = placed (offset + skipped) (drop skipped (take i bytes)) in
          let grown = placed_push offset skipped i bytes place _ before.0 within (omega (arith, offset_is, within, end)) refl in
          subst (HasLastPayload c.push.new.self) (append_assoc came more (placed place (get_or bytes i 0 ∷ [])) ∙ ap (λ (ps : List PlacedByte). came ++ ps) (sym grown)) (c.push.ensures (came ++ more) (before.1 came offset end has)),
    )

pub returns : goal.returns
returns c came all offset n four is end has =
    let bytes = c.args.bytes.now in
    let skipped = c.saturating_sub-skipped.result in
    let past = c.loop-index-test.false in
    let whole : take c.loop-index.index bytes ≡ bytes = take_all c.loop-index.index bytes (omega (arith, past)) in
    let start = offset + (length all - n) in
    let size : length bytes ≡ length all - (length all - n) = ap (λ (bs : List ℕ). length bs) is ∙ length-drop (length all - n) all in
    let held = c.loop-index.invariant.1 came start (omega (arith, size, end)) has in
    with_last c.loop-index.self came offset n bytes all four is
    (skipping c.loop-index.self came start 4 skipped bytes (omega arith) c.saturating_sub-skipped.ensures
    (subst (λ (bs : List ℕ). HasLastPayload c.loop-index.self (came ++ placed (start + skipped) (drop skipped bs))) whole held))

pub loop-index-init : goal.loop-index-init
loop-index-init c = grind (arith, common_steps)

pub bounds-bytes-index : goal.bounds-bytes-index
bounds-bytes-index c = search rules

pub overflow_sub-bytes : goal.overflow_sub-bytes
overflow_sub-bytes c = let within = c.loop-index-test.true in omega (arith, within)
