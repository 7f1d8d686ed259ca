-- Bytes of which a part is held.
use Rattle.std.proofs.Common.{◌≡◌, ℕ, ◌-◌, ◌≤◌, ◌⊎◌, min, inl, inr, List, length, take, drop, sym, ap, ◌∙◌, arith, length-drop}
use Rattle.std.proofs.lemmas.List.{length-take, take_all, take_min}
use Rattle.std.proofs.lemmas.Bool.{cases_lt}
use Rattle.wsn_print.specs.ShownParts.{HoldsFirst}

-- The first bytes are enough for a view of as many, or fewer.
pub first_held_in : (n size : ℕ) (all held : List ℕ) → n ≤ size → held ≡ take size all → HoldsFirst n all held
first_held_in n size all held few is =
    let own : length held ≡ min size (length all) = ap (λ (bs : List ℕ). length bs) is ∙ length-take size all in
    (is ∙ sym (take_min size all) ∙ ap (λ (m : ℕ). take m all) (sym own), enough (length held) (length all) own)
  where
    enough : (a b : ℕ) → a ≡ min size b → (n ≤ a) ⊎ (a ≡ b)
    enough a b own =
        elim (cases_lt b size) [
          | inl less ↦ inr (omega (arith, own, less))
          | inr more ↦ inl (omega (arith, own, more, few))
        ]

-- The first 4,096 bytes are enough for each view of so many.
pub first_held : (n : ℕ) (all held : List ℕ) → n ≤ 4096 → held ≡ take 4096 all → HoldsFirst n all held
first_held n all held few is = first_held_in n 4096 all held few is

-- All bytes are enough for each view.
pub whole_held : (n : ℕ) (all held : List ℕ) → held ≡ all → HoldsFirst n all held
whole_held n all held is =
    let size : length held ≡ length all = ap (λ (bs : List ℕ). length bs) is in
    (is ∙ sym (take_all (length held) all (omega (arith, size))), inr size)

-- What follows k bytes.
pub rest_is : (k : ℕ) (bytes : List ℕ) → take (length bytes - k) (drop k bytes) ≡ drop k bytes
rest_is k bytes = take_all (length bytes - k) (drop k bytes) (omega (arith, length-drop k bytes))
