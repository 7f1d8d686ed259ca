-- Distinct names, by a test that computes.
use Rattle.std.proofs.Common.{◌≡◌, ℕ, Bool, true, not, ◌&&◌, List, sym, ap, ◌∙◌}
use Rattle.std.specs.Prelude.{⊤}
use Rattle.std.specs.Str.{bytes_eq}
use Rattle.std.proofs.lemmas.Bool.{and_parts}
use Rattle.std.proofs.lemmas.Slice.Eq.{bytes_eq-Decides}
use Rattle.wsn_laws.specs.JsonText.{Members, End, Member, IsNew, HasDistinctNames, AreDistinct}

abbrev pub is_new : List ℕ → Members → Bool
is_new name End = true
is_new name (Member other value others) = not (bytes_eq name other) && is_new name others

abbrev pub are_distinct : Members → Bool
are_distinct End = true
are_distinct (Member name value others) = is_new name others && are_distinct others

-- The names in each value are distinct.
abbrev pub HaveDistinctNames : Members → Type 0
HaveDistinctNames End = ⊤
HaveDistinctNames (Member name value others) = HasDistinctNames value × HaveDistinctNames others

pub differ : (name other : List ℕ) → not (bytes_eq name other) ≡ true → name ≡ other → ⊥
differ name other test same =
    let yes : bytes_eq name other ≡ true = (bytes_eq-Decides name other).1 same in
    let no : not true ≡ true = ap not (sym yes) ∙ test in
    absurd cc

pub new : (name : List ℕ) (m : Members) → is_new name m ≡ true → IsNew name m
new name End test = tt
new name (Member other value others) test =
    let parts = and_parts (not (bytes_eq name other)) (is_new name others) test in
    (differ name other parts.0, new name others parts.1)

pub distinct : (m : Members) → are_distinct m ≡ true → HaveDistinctNames m → AreDistinct m
distinct End test values = tt
distinct (Member name value others) test values =
    let parts = and_parts (is_new name others) (are_distinct others) test in
    (new name others parts.0, values.0, distinct others parts.1 values.1)
