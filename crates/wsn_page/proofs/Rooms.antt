-- What a room holds after a write of which not all fits.
use Rattle.std.proofs.Common.{◌≡◌, ℕ, ◌+◌, ◌-◌, ◌≤◌, min, inl, inr, List, ◌++◌, length, take, sym, ap, ◌∙◌, arith}
use Rattle.std.proofs.Math.Seq.{take-append-add}
use Rattle.std.proofs.lemmas.Bool.{cases_lt}
use Rattle.std.proofs.lemmas.List.{take_all}

taken : (bytes : List ℕ) (room n : ℕ) → n ≡ min (length bytes) room → take n bytes ≡ take room bytes
taken bytes room n is = elim (cases_lt room (length bytes)) [
  | inl full ↦ let same : n ≡ room = omega arith in ap (λ (k : ℕ). take k bytes) same
  | inr fits ↦ take_all n bytes (omega arith) ∙ sym (take_all room bytes fits)
]

-- It holds the longest prefix that fits.
pub longest : (size : ℕ) (text bytes : List ℕ) (n : ℕ) → length text ≤ size → n ≡ min (length bytes) (size - length text)
    → text ++ take n bytes ≡ take size (text ++ bytes)
longest size text bytes n within is =
    let whole : length text + (size - length text) ≡ size = omega arith in
    ap (λ (bs : List ℕ). text ++ bs) (taken bytes (size - length text) n is)
    ∙ sym (take-append-add text bytes (size - length text))
    ∙ ap (λ (k : ℕ). take k (text ++ bytes)) whole
