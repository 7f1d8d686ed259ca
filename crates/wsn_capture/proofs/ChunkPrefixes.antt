-- The prefix of a chunk that belongs to one line.
use Rattle.std.proofs.Common.{◌≡◌, ℕ, ◌+◌, ◌-◌, ◌<◌, ◌≤◌, inl, inr, List, [], ◌∷◌, ◌++◌, length, take, drop, refl, sym, ap, ◌∙◌, subst, append_assoc, length-append, take-append-drop, length-drop, arith}
use Rattle.std.proofs.Math.Seq.{take-add}
use Rattle.std.proofs.lemmas.List.{length-take-le, take_all}
use Rattle.wsn_rules.specs.Limits.{Limits}
use Rattle.wsn_capture.specs.declared.capture_stop.CaptureStop.{CaptureStop}
use Rattle.wsn_rules.specs.TextLines.{IsLine}
use Rattle.wsn_rules.specs.Entries.{Entry}
use Rattle.wsn_capture.specs.LineFaults.{AreAcceptedLines}
use Rattle.wsn_capture.specs.CaptureAnswers.{IsUnfaulted}
use Rattle.wsn_capture.specs.LineSplitters.{ContinuesLine, EndsLine, HasPassedOn, IsStopAt, IsStopBy, IsStopWithin}
use Rattle.wsn_capture.proofs.SplitLines.{split_more, no_long, split_line, stop_line, stop_at_most}

-- ---- lists

pub last_of : (bytes : List ℕ) → 0 < length bytes → (earlier : List ℕ) × (last : ℕ) × (bytes ≡ earlier ++ last ∷ [])
last_of [] some = absurd (omega arith)
last_of (b ∷ []) some = ([], b, refl)
last_of (b ∷ c ∷ bytes) some = let rest = last_of (c ∷ bytes) (omega arith) in (b ∷ rest.0, rest.1, ap (λ (bs : List ℕ). b ∷ bs) rest.2)

-- what follows k bytes
pub rest_is : (k : ℕ) (bytes : List ℕ) → take (length bytes - k) (drop k bytes) ≡ drop k bytes
rest_is k bytes = take_all (length bytes - k) (drop k bytes) (omega (arith, length-drop k bytes))

-- what is consumed of the rest next
pub taken_more : (came chunk : List ℕ) (at count : ℕ) → (came ++ take at chunk) ++ take count (take (length chunk - at) (drop at chunk)) ≡ came ++ take (at + count) chunk
taken_more came chunk at count = grind (arith, append_assoc, rest_is, take-add)

-- ---- stops

-- equal bytes
abbrev moved : {limits : Limits} {came others : List ℕ} → others ≡ came → (is : IsUnfaulted limits came) → IsUnfaulted limits others
moved same is = record {
  lines = is.lines;
  begun = is.begun;
  whole = same ∙ is.whole;
  each = is.each;
  in_line = is.in_line;
  short = is.short;
  given = is.given;
  taken = is.taken;
}

-- a stop in the rest of a chunk is a stop in the chunk
stop_after : (limits : Limits) (came front rest : List ℕ) (stop : CaptureStop) → IsStopWithin limits (came ++ front) rest stop → IsStopWithin limits came (front ++ rest) stop
stop_after limits came front rest stop within =
    let same = append_assoc came front within.earlier in
    record {
      earlier = front ++ within.earlier;
      last = within.last;
      ahead = within.ahead;
      whole = ap (λ (bs : List ℕ). front ++ bs) within.whole ∙ sym (append_assoc front within.earlier (within.last ∷ within.ahead));
      unfaulted = moved (sym same) within.unfaulted;
      is_evident = within.is_evident;
      stops = subst (λ (bs : List ℕ). IsStopBy limits (bs ++ within.last ∷ []) stop) same within.stops;
    }

pub stop_in_rest : (limits : Limits) (came chunk : List ℕ) (at : ℕ) (stop : CaptureStop) → IsStopWithin limits (came ++ take at chunk) (take (length chunk - at) (drop at chunk)) stop → IsStopWithin limits came chunk stop
stop_in_rest limits came chunk at stop within =
    subst (λ (bs : List ℕ). IsStopWithin limits came bs stop) (ap (λ (bs : List ℕ). take at chunk ++ bs) (rest_is at chunk) ∙ take-append-drop at chunk)
    (stop_after limits came (take at chunk) (take (length chunk - at) (drop at chunk)) stop within)

-- ---- a prefix of a chunk

module _ (limits : Limits) (lines : List (List ℕ)) (begun came : List ℕ) (split : HasPassedOn limits lines begun came) where
  -- it goes on with the line
  pub goes_on : (after chunk : List ℕ) (count : ℕ) → ContinuesLine begun after chunk count → HasPassedOn limits lines after (came ++ take count chunk)
  goes_on after chunk count goes = grind (arith, split_more, length-append)

  module _ (line chunk : List ℕ) (count : ℕ) (ends : EndsLine begun line chunk count) where
    size : length line ≡ length begun + length ends.bytes
    size = ap (λ (bs : List ℕ). length bs) ends.is ∙ length-append begun ends.bytes

    -- it ends the line
    pub ends_line : (given : List Entry) → AreAcceptedLines limits (lines ++ line ∷ []) given → HasPassedOn limits (lines ++ line ∷ []) [] (came ++ take count chunk)
    ends_line given consumes = grind (arith, split_line, size, no_long)

    -- the line that it ends isn't accepted
    pub stops_at_line : (stop : CaptureStop) → IsStopAt limits lines line stop → IsStopWithin limits came chunk stop
    stops_at_line stop stops =
        let ahead = drop count chunk in
        let here = subst (λ (bs : List ℕ). IsStopAt limits lines bs stop) ends.is stops in
        elim ends.ends [
          | inl lf ↦
              subst (λ (bs : List ℕ). IsStopWithin limits came bs stop)
              (sym (append_assoc ends.bytes (10 ∷ []) ahead) ∙ ap (λ (bs : List ℕ). bs ++ ahead) (sym lf.0) ∙ take-append-drop count chunk)
              (stop_line limits lines begun came split ends.bytes ahead stop ends.in_line (omega (arith, size, lf.1)) here)
          | inr long ↦
              let sizes : length begun + length ends.bytes ≡ 8196 = sym size ∙ long.1 in
              let parts = last_of ends.bytes (omega (arith, sizes, split.short)) in
              subst (λ (bs : List ℕ). IsStopWithin limits came bs stop) (ap (λ (bs : List ℕ). bs ++ ahead) (sym long.0) ∙ take-append-drop count chunk)
              (subst (λ (bs : List ℕ). IsLine bs → length begun + length bs ≡ 8196 → IsStopAt limits lines (begun ++ bs) stop → IsStopWithin limits came (bs ++ ahead) stop) (sym parts.2)
              (stop_at_most limits lines begun came split parts.0 parts.1 ahead stop) ends.in_line sizes here)
        ]

-- The line and the bytes consumed are no more than a line may hold.
pub room_for_line : (begun line chunk : List ℕ) (count : ℕ) → count ≤ length chunk → EndsLine begun line chunk count → length begun + count ≤ 8196
room_for_line begun line chunk count within ends =
    let size = length-take-le count chunk within in
    let whole = length-append begun ends.bytes in
    let is = ap (λ (bs : List ℕ). length bs) ends.is in
    elim ends.ends [
      | inl lf ↦ omega (arith, size, whole, is, lf.1, ap (λ (bs : List ℕ). length bs) lf.0, length-append ends.bytes (10 ∷ []))
      | inr long ↦ omega (arith, size, whole, is, long.1, ap (λ (bs : List ℕ). length bs) long.0)
    ]
