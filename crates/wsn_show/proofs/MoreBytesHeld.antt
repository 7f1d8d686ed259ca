-- The first and the last of some bytes after more came.
use Rattle.std.proofs.Common.{◌≡◌, ℕ, ◌+◌, ◌-◌, ◌<◌, ◌≤◌, ◌^◌, List, ◌++◌, length, take, drop, min, inl, inr, sym, ap, ◌∙◌, append-nil, arith, length-append, length-drop}
use Rattle.std.proofs.lemmas.Bool.{cases_lt}
use Rattle.std.proofs.lemmas.List.{take_all, drop_all, take-append-le, drop-append-le, drop-drop, take_min, length-take}
use Rattle.std.proofs.Math.Seq.{take-append-add, drop-append-add}

-- a count that isn't saturated
pub counted : (count number sum : ℕ) (came more : List ℕ) → count ≡ length came → number ≡ length more → length came + length more < 2 ^ 64 → sum ≡ min (count + number) (2 ^ 64 - 1) → sum ≡ length (came ++ more)
counted count number sum came more is also small saturated = omega (arith, is, also, small, saturated, length-append came more)

-- As many of the first bytes as fit into a room.
pub first_more_in : (size : ℕ) (held came more : List ℕ) (room n : ℕ) → held ≡ take size came → room + length held ≡ size → n ≡ min room (length more) → held ++ take n more ≡ take size (came ++ more)
first_more_in size held came more room n is fits few =
    let own : length held ≡ min size (length came) = ap (λ (bs : List ℕ). length bs) is ∙ length-take size came in
    let front : take n more ≡ take room more = ap (λ (m : ℕ). take m more) few ∙ take_min room more in
    elim (cases_lt (length came) size) [
      | inl less ↦
          let all : held ≡ came = is ∙ take_all size came (omega (arith, less)) in
          let left : size ≡ length came + room = omega (arith, own, less, fits) in
          ap (λ (bs : List ℕ). bs ++ take n more) all ∙ ap (λ (bs : List ℕ). came ++ bs) front ∙ sym (ap (λ (m : ℕ). take m (came ++ more)) left ∙ take-append-add came more room)
      | inr full ↦
          let none : room ≡ 0 = omega (arith, own, full, fits) in
          ap (λ (bs : List ℕ). held ++ bs) (front ∙ ap (λ (m : ℕ). take m more) none) ∙ append-nil held ∙ is ∙ sym (take-append-le size came more full)
    ]

pub first_more : (held came more : List ℕ) (room n : ℕ) → held ≡ take 4096 came → room + length held ≡ 4096 → n ≡ min room (length more) → held ++ take n more ≡ take 4096 (came ++ more)
first_more held came more room n is fits few = first_more_in 4096 held came more room n is fits few

pub last_more : (held came more : List ℕ) → held ≡ drop (length came - 2048) came → drop (length held + length (drop (length more - 2048) more) - 2048) held ++ drop (length more - 2048) more ≡ drop (length (came ++ more) - 2048) (came ++ more)
last_more held came more is =
    let size : length held ≡ length came - (length came - 2048) = ap (λ (bs : List ℕ). length bs) is ∙ length-drop (length came - 2048) came in
    let last : length (drop (length more - 2048) more) ≡ length more - (length more - 2048) = length-drop (length more - 2048) more in
    let all : length (came ++ more) ≡ length came + length more = length-append came more in
    elim (cases_lt (length more) 2048) [
      | inl less ↦
          let none : length more - 2048 ≡ 0 = omega (arith, less) in
          let whole : drop (length more - 2048) more ≡ more = ap (λ (m : ℕ). drop m more) none in
          let over : length (came ++ more) - 2048 ≡ (length came - 2048) + (length held + length (drop (length more - 2048) more) - 2048) = omega (arith, size, last, all, less) in
          let within : (length came - 2048) + (length held + length (drop (length more - 2048) more) - 2048) ≤ length came = omega (arith, size, last, less) in
          ap (λ (bs : List ℕ). drop (length held + length (drop (length more - 2048) more) - 2048) bs ++ drop (length more - 2048) more) is
          ∙ ap (λ (bs : List ℕ). bs ++ drop (length more - 2048) more) (drop-drop (length held + length (drop (length more - 2048) more) - 2048) (length came - 2048) came)
          ∙ ap (λ (bs : List ℕ). drop ((length came - 2048) + (length held + length (drop (length more - 2048) more) - 2048)) came ++ bs) whole
          ∙ sym (ap (λ (m : ℕ). drop m (came ++ more)) over ∙ drop-append-le ((length came - 2048) + (length held + length (drop (length more - 2048) more) - 2048)) came more within)
      | inr many ↦
          let over : length held ≤ length held + length (drop (length more - 2048) more) - 2048 = omega (arith, last, many) in
          let at : length (came ++ more) - 2048 ≡ length came + (length more - 2048) = omega (arith, all, many) in
          ap (λ (bs : List ℕ). bs ++ drop (length more - 2048) more) (drop_all (length held + length (drop (length more - 2048) more) - 2048) held over)
          ∙ sym (ap (λ (m : ℕ). drop m (came ++ more)) at ∙ drop-append-add came more (length more - 2048))
    ]
