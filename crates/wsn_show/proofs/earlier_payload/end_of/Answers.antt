use Rattle.std.proofs.Common.{◌≡◌, ℕ, ◌-◌, List, ◌++◌, length, take, drop, ap, ◌∙◌, rules}
use Rattle.wsn_print.proofs.HeldParts.{rest_is}
use Rattle.wsn_rules.specs.BadCharacter.{last_of}
use Rattle.wsn_show.proofs.earlier_payload.end_of.Goals as goal

pub new-end-requires : goal.new-end-requires
new-end-requires c = search rules

pub slice_bounds-add-count : goal.slice_bounds-add-count
slice_bounds-add-count c = search rules

pub slice_bounds-add-start : goal.slice_bounds-add-start
slice_bounds-add-start c = search rules

pub slice_bounds-add-end : goal.slice_bounds-add-end
slice_bounds-add-end c = search rules

pub add-requires : goal.add-requires
add-requires c = search rules

pub returns : goal.returns
returns c =
    let held = c.args.bytes.now in
    let from = c.saturating_sub.result in
    let last : List ℕ = take (length held - from) (drop from held) in
    let last_is : last ≡ last_of 48 held = rest_is from held ∙ ap (λ (m : ℕ). drop m held) c.saturating_sub.ensures in
    c.add.ensures ∙ ap (λ (bs : List ℕ). bs ++ last) c.new-end.ensures ∙ last_is
