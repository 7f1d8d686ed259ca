use Rattle.std.proofs.Common.{◌≡◌, ℕ, ◌+◌, ◌-◌, ◌≤◌, List, length, drop, ap, ◌∙◌, length-drop, arith, rules}
use Rattle.wsn_rules.specs.BadCharacter.{last_of}
use Rattle.wsn_rules.proofs.LastElements.{last_of_last}
use Rattle.wsn_show.proofs.earlier_payload.EarlierPayload.make_room.Goals as goal

pub has_room-requires : goal.has_room-requires
has_room-requires c = search rules

pub len-older-requires : goal.len-older-requires
len-older-requires c = search rules

pub overflow_sub-older : goal.overflow_sub-older
overflow_sub-older c = search rules

pub drop_front-requires : goal.drop_front-requires
drop_front-requires c = search rules

pub returns-then-not-has_room-clause-fits : goal.returns-then-not-has_room-clause-fits
returns-then-not-has_room-clause-fits c =
    let held = c.args.self.now.held in
    let size : length c.drop_front.new.self ≡ length held - (length held - 48) =
    ap (λ (bs : List ℕ). length bs) (c.drop_front.ensures ∙ ap (λ (k : ℕ). drop (k - 48) held) c.len-older.ensures.value) ∙ length-drop (length held - 48) held in
    let few : c.args.number ≤ 48 = c.requires in
    let fits : length c.drop_front.new.self + c.args.number ≤ 128 = omega (arith, size, few) in
    fits

pub returns-else-not-has_room-clause-last : goal.returns-else-not-has_room-clause-last
returns-else-not-has_room-clause-last c = search rules

pub returns-else-not-has_room-clause-fits : goal.returns-else-not-has_room-clause-fits
returns-else-not-has_room-clause-fits c = search rules

pub returns-then-not-has_room-clause-last : goal.returns-then-not-has_room-clause-last
returns-then-not-has_room-clause-last c =
    let held = c.args.self.now.held in
    ap (λ (bs : List ℕ). last_of 48 bs) (c.drop_front.ensures ∙ ap (λ (k : ℕ). drop (k - 48) held) c.len-older.ensures.value) ∙ last_of_last 48 48 held (omega arith)
