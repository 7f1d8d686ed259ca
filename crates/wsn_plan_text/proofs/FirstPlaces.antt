-- A text split at the first byte of a value.
use Rattle.std.proofs.Common.{◌≡◌, ℕ, suc, ◌+◌, ◌<◌, Bool, true, false, cond, None, Some, List, [], ◌∷◌, ◌++◌, length, take, drop, refl, sym, ap, ◌∙◌, arith, nat_eq}
use Rattle.std.specs.Prelude.{position}
use Rattle.std.specs.List.{position_from}
use Rattle.std.proofs.lemmas.Bool.{eqb-true, eqb-false}
use Rattle.std.proofs.lemmas.Iterator.Adapters.{position_from-zero}
use Rattle.std.proofs.lemmas.List.{append-nil}
use Rattle.wsn_plan_text.specs.PlanText.{HasNo}
use Rattle.wsn_plan_text.specs.Splits.{IsSplit}

some_same : (x y : ℕ) → Some x ≡ Some y → x ≡ y
some_same x y e = cc

abbrev CutAt : ℕ → List ℕ → ℕ → Type 0
CutAt byte text k = (k < length text) × HasNo byte (take k text) × (text ≡ take k text ++ byte ∷ drop (k + 1) text)

-- at the first byte, which has the value or not
found_from : (byte i at x : ℕ) (text : List ℕ) (passes : Bool) → nat_eq x byte ≡ passes
    → cond passes (Some i) (position_from (λ y. nat_eq y byte) (i + 1) text) ≡ Some at
    → ((j : ℕ) → position_from (λ y. nat_eq y byte) j text ≡ Some at → (k : ℕ) × (at ≡ j + k) × CutAt byte text k)
    → (k : ℕ) × (at ≡ i + k) × CutAt byte (x ∷ text) k
found_from byte i at x text true here e later =
    let place = some_same i at e in
    (0, omega arith, (omega arith, tt, ap (λ (y : ℕ). y ∷ text) (eqb-true x byte here)))
found_from byte i at x text false here e later =
    let preceded_by = later (i + 1) e in
    let one_more : suc (preceded_by.0 + 1) ≡ suc preceded_by.0 + 1 = omega arith in (
      suc preceded_by.0,
      omega (arith, preceded_by.1),
      (
        omega (arith, preceded_by.2.0),
        (eqb-false x byte here, preceded_by.2.1),
        ap (λ (bytes : List ℕ). x ∷ bytes) preceded_by.2.2
            ∙ ap (λ (n : ℕ). x ∷ (take preceded_by.0 text ++ byte ∷ drop n (x ∷ text))) one_more,
      ),
    )

found : (byte i at : ℕ) (text : List ℕ) → position_from (λ y. nat_eq y byte) i text ≡ Some at → (k : ℕ) × (at ≡ i + k) × CutAt byte text k
found byte i at [] e = cc e
found byte i at (x ∷ text) e = found_from byte i at x text (nat_eq x byte) refl e (λ j. found byte j at text)

missed_from : (byte i x : ℕ) (text : List ℕ) (passes : Bool) → nat_eq x byte ≡ passes
    → cond passes (Some i) (position_from (λ y. nat_eq y byte) (i + 1) text) ≡ None
    → ((j : ℕ) → position_from (λ y. nat_eq y byte) j text ≡ None → HasNo byte text) → HasNo byte (x ∷ text)
missed_from byte i x text passes here e later = grind (arith, eqb-false)

missed : (byte i : ℕ) (text : List ℕ) → position_from (λ y. nat_eq y byte) i text ≡ None → HasNo byte text
missed byte i [] e = tt
missed byte i (x ∷ text) e = missed_from byte i x text (nat_eq x byte) refl e (λ j. missed byte j text)

pub cut_at_place : (byte at : ℕ) (text : List ℕ) → Some at ≡ position (λ y. nat_eq y byte) text
    → (at < length text) × HasNo byte (take at text) × (text ≡ take at text ++ byte ∷ drop (at + 1) text)
cut_at_place byte at text e = grind (arith, found, position_from-zero)

pub cut_nowhere : (byte : ℕ) (text : List ℕ) → None ≡ position (λ y. nat_eq y byte) text → IsSplit byte text text None
cut_nowhere byte text e = (missed byte 0 text (sym (position_from-zero (λ y. nat_eq y byte) text) ∙ sym e), sym (append-nil text))
