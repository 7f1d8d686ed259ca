-- The first of some bytes after more came.
use Rattle.std.proofs.Common.{◌≡◌, ℕ, true≢false, ◌+◌, Result, Ok, Err, List, ◌++◌, length, take, min, inl, inr, sym, ap, ◌∙◌, append-nil, arith}
use Rattle.std.specs.Prelude.{◌↔◌, IsOk, IsErr, OnOk}
use Rattle.wsn_io.specs.FirstReads.{returned_in}
use Rattle.std.proofs.lemmas.Bool.{cases_lt}
use Rattle.std.proofs.lemmas.List.{take_all, take-append-le, take_min, length-take}
use Rattle.std.proofs.Math.Seq.{take-append-add}

-- what fits was appended
pub extended : {T E P Q : Type 0} (result : Result T E) → (IsOk result ↔ P) → P → OnOk result Q → Q
extended (Ok done) fits p q = q
extended (Err error) fits p q = absurd (true≢false (sym (fits.1 p)))

-- the first bytes with those of more bytes for which there is room
pub first_more : (most room n : ℕ) (kept came more : List ℕ) → kept ≡ take most came → room + length kept ≡ most → n ≡ min room (length more) → kept ++ take n more ≡ take most (came ++ more)
first_more most room n kept came more is fits few =
    let size : length kept ≡ min most (length came) = ap (λ (bs : List ℕ). length bs) is ∙ length-take most came in
    let front : take n more ≡ take room more = ap (λ (m : ℕ). take m more) few ∙ take_min room more in
    elim (cases_lt (length came) most) [
      | inl less ↦
          let all : kept ≡ came = is ∙ take_all most came (omega arith) in
          let left : most ≡ length came + room = omega (arith, size) in
          ap (λ (bs : List ℕ). bs ++ take n more) all ∙ ap (λ (bs : List ℕ). came ++ bs) front ∙ sym (ap (λ (m : ℕ). take m (came ++ more)) left ∙ take-append-add came more room)
      | inr full ↦
          let none : room ≡ 0 = omega (arith, size) in
          ap (λ (bs : List ℕ). kept ++ bs) (front ∙ ap (λ (m : ℕ). take m more) none) ∙ append-nil kept ∙ is ∙ sym (take-append-le most came more full)
    ]

-- a read that failed returned nothing
pub kept_at_error : {E : Type 0} (most : ℕ) (kept came buffer : List ℕ) (result : Result ℕ E) → IsErr result → kept ≡ take most came → kept ≡ take most (came ++ returned_in result buffer)
kept_at_error most kept came buffer result failed is = grind (arith, true≢false, append-nil)
