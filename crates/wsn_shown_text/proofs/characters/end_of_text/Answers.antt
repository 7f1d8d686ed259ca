use Rattle.std.proofs.Common.{◌≡◌, ℕ, ◌+◌, ◌≤◌, List, ◌-◌, ◌/◌, ◌++◌, length, drop, min, sym, ap, ◌∙◌, rules, arith, length-drop}
use Rattle.wsn_rules.specs.BadCharacter.{last_of}
use Rattle.wsn_rules.proofs.LastElements.{last_of_joined}
use Rattle.wsn_shown_text.proofs.HeldViews.{drop_held, holds_fewer}
use Rattle.wsn_shown_text.proofs.characters.end_of_text.Goals as goal

pub returns : goal.returns
returns c = λ all holds.
    let n = min c.args.view 4096 in
    let held = c.args.evidence.now.held.now in
    let known = c.args.character.now.earlier.now in
    let last = c.end_of-last.result.now in
    let earlier = c.end_of-earlier.result.now in
    let most : c.bytes-most.result ≡ n = c.bytes-most.ensures.is ∙ c.short-view.ensures in
    let less : n / 2 ≤ c.args.view / 2 = omega arith in
    let last_is : last ≡ last_of (n / 2) all =
    c.end_of-last.ensures ∙ ap (λ (k : ℕ). drop (length held - k / 2) held) most ∙ drop_held (n / 2) all held (holds_fewer (n / 2) (c.args.view / 2) all held less holds.1) in
    let earlier_is : earlier ≡ last_of (n / 2 - length (last_of (n / 2) all)) known =
    c.end_of-earlier.ensures ∙ ap (λ (k : ℕ). last_of (k / 2 - length last) known) most ∙ ap (λ (bs : List ℕ). last_of (n / 2 - length bs) known) last_is in
    c.add-2.ensures ∙ ap (λ (bs : List ℕ). bs ++ last) (c.add.ensures ∙ ap (λ (bs : List ℕ). bs ++ earlier) c.new-text.ensures) ∙ (λ j. earlier_is j ++ last_is j) ∙ sym (last_of_joined (n / 2) known all)

-- The last bytes, at most k.
at_most : (k : ℕ) (bytes end : List ℕ) → end ≡ last_of k bytes → length end ≤ k
at_most k bytes end is =
    let size : length end ≡ length bytes - (length bytes - k) = ap (λ (bs : List ℕ). length bs) is ∙ length-drop (length bytes - k) bytes in
    omega (arith, size)

-- At most 4,096 bytes are shown, whatever the view.
few_bytes : (bytes short view : ℕ) → bytes ≡ short → short ≡ min view 4096 → bytes ≤ 4096
few_bytes bytes short view is is_short = omega (arith, is, is_short)

pub overflow_sub-most : goal.overflow_sub-most
overflow_sub-most c = at_most (c.bytes-most.result / 2) c.args.evidence.now.held.now c.end_of-last.result.now c.end_of-last.ensures

pub new-text-requires : goal.new-text-requires
new-text-requires c = search rules

pub add-requires : goal.add-requires
add-requires c =
    let none : length c.new-text.result ≡ 0 = ap (λ (bs : List ℕ). length bs) c.new-text.ensures in
    let few = at_most (c.bytes-most.result / 2 - length c.end_of-last.result.now) c.args.character.now.earlier.now c.end_of-earlier.result.now c.end_of-earlier.ensures in
    let most = few_bytes c.bytes-most.result c.short-view.result c.args.view c.bytes-most.ensures.is c.short-view.ensures in
    let fits : length c.new-text.result + length c.end_of-earlier.result.now ≤ 2048 = omega (arith, none, few, most) in
    (omega arith, fits)

pub add-requires-2 : goal.add-requires-2
add-requires-2 c =
    let first : length c.add.new.self ≡ length c.end_of-earlier.result.now = ap (λ (bs : List ℕ). length bs) (c.add.ensures ∙ ap (λ (bs : List ℕ). bs ++ c.end_of-earlier.result.now) c.new-text.ensures) in
    let last = at_most (c.bytes-most.result / 2) c.args.evidence.now.held.now c.end_of-last.result.now c.end_of-last.ensures in
    let few = at_most (c.bytes-most.result / 2 - length c.end_of-last.result.now) c.args.character.now.earlier.now c.end_of-earlier.result.now c.end_of-earlier.ensures in
    let most = few_bytes c.bytes-most.result c.short-view.result c.args.view c.bytes-most.ensures.is c.short-view.ensures in
    let fits : length c.add.new.self + length c.end_of-last.result.now ≤ 2048 = omega (arith, first, last, few, most) in
    (omega arith, fits)
