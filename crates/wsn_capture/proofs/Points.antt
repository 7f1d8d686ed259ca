-- The point in a time.
use Rattle.std.proofs.Common.{◌≡◌, ℕ, suc, zero, ◌+◌, ◌<◌, ◌≤◌, List, [], ◌∷◌, ◌++◌, length, take, drop, get_or, refl, sym, ap, subst, ◌∙◌, arith, None, Some, append_assoc}
use Rattle.std.specs.List.{AllByRecursion}
use Rattle.std.proofs.lemmas.Bool.{eqb-true, eq-eqb}
use Rattle.std.proofs.Math.Seq.{drop-cons}
use Rattle.std.proofs.lemmas.List.{take-append-drop}
use Rattle.memchr.specs.Find.{IsFirstByte, is_byte}
use Rattle.wsn_rules.specs.ShownCapture.{IsDigit, IsWholePart, IsFractionalPart, IsSeconds}

-- no digit is a point
no_point : (whole rest : List ℕ) (k : ℕ) → AllByRecursion IsDigit whole → k < length whole → get_or (whole ++ rest) k 0 ≡ 46 → ⊥
no_point [] rest k digits less is = omega (arith, less)
no_point (b ∷ whole) rest zero digits less is = omega (arith, digits.0.0, is)
no_point (b ∷ whole) rest (suc k) digits less is = no_point whole rest k digits.1 (omega (arith, less)) is

point_there : (whole fraction : List ℕ) → get_or (whole ++ 46 ∷ fraction) (length whole) 0 ≡ 46
point_there [] fraction = refl
point_there (b ∷ whole) fraction = point_there whole fraction

take_whole : (whole rest : List ℕ) → take (length whole) (whole ++ rest) ≡ whole
take_whole [] rest = refl
take_whole (b ∷ whole) rest = ap (λ (bs : List ℕ). b ∷ bs) (take_whole whole rest)

drop_suc : (whole fraction : List ℕ) → drop (suc (length whole)) (whole ++ 46 ∷ fraction) ≡ fraction
drop_suc [] fraction = refl
drop_suc (b ∷ whole) fraction = drop_suc whole fraction

drop_whole : (whole fraction : List ℕ) → drop (length whole + 1) (whole ++ 46 ∷ fraction) ≡ fraction
drop_whole whole fraction =
    let next : length whole + 1 ≡ suc (length whole) = omega arith in
    ap (λ (n : ℕ). drop n (whole ++ 46 ∷ fraction)) next ∙ drop_suc whole fraction

-- a text with a point, and its parts
pub parted : (text : List ℕ) (k : ℕ) → IsFirstByte (is_byte 46) text (Some k) → text ≡ take k text ++ 46 ∷ drop (k + 1) text
parted text k first =
    let at : drop k text ≡ get_or text k 0 ∷ drop (suc k) text = drop-cons text k 0 first.0.high in
    let point : get_or text k 0 ≡ 46 = eqb-true (get_or text k 0) 46 first.1 in
    let next : suc k ≡ k + 1 = omega arith in
    sym (take-append-drop k text) ∙ ap (λ (bs : List ℕ). take k text ++ bs) (at ∙ ap (λ (b : ℕ). b ∷ drop (suc k) text) point ∙ ap (λ (n : ℕ). 46 ∷ drop n text) next)

whole_text : (text : List ℕ) (seconds : IsSeconds text) → text ≡ seconds.whole ++ 46 ∷ seconds.fraction
whole_text text seconds = seconds.is ∙ append_assoc seconds.whole (46 ∷ []) seconds.fraction

pub seconds_of_parts : (text : List ℕ) (k : ℕ) → IsFirstByte (is_byte 46) text (Some k) → IsWholePart (take k text)
    → IsFractionalPart (drop (k + 1) text) → IsSeconds text
seconds_of_parts text k first whole fraction = record {
  whole = take k text;
  fraction = drop (k + 1) text;
  is = parted text k first ∙ sym (append_assoc (take k text) (46 ∷ []) (drop (k + 1) text));
  whole_is = whole;
  fraction_is = fraction;
}

point_within : (whole fraction : List ℕ) → length whole < length (whole ++ 46 ∷ fraction)
point_within [] fraction = omega arith
point_within (b ∷ whole) fraction = omega (arith, point_within whole fraction)

-- the first point is the one between the parts
first_point : (whole fraction : List ℕ) (k : ℕ) → AllByRecursion IsDigit whole
    → IsFirstByte (is_byte 46) (whole ++ 46 ∷ fraction) (Some k) → k ≡ length whole
first_point whole fraction k digits first =
    let not_less : k < length whole → ⊥ = λ less. no_point whole (46 ∷ fraction) k digits less (eqb-true _ 46 first.1) in
    let not_more : length whole < k → ⊥ =
    λ more. first.0.before (length whole) (omega arith) more (eq-eqb _ 46 (point_there whole fraction)) in
    omega (arith, not_less, not_more)

pub parts_of_seconds : (text : List ℕ) (k : ℕ) → IsFirstByte (is_byte 46) text (Some k) → IsSeconds text
    → IsWholePart (take k text) × IsFractionalPart (drop (k + 1) text)
parts_of_seconds text k first seconds =
    let here = subst (λ (bs : List ℕ). IsFirstByte (is_byte 46) bs (Some k)) (whole_text text seconds) first in
    let at : k ≡ length seconds.whole = first_point seconds.whole seconds.fraction k seconds.whole_is.digits here in
    let front : take k text ≡ seconds.whole =
    ap (λ (bs : List ℕ). take k bs) (whole_text text seconds) ∙ ap (λ (n : ℕ). take n (seconds.whole ++ 46 ∷ seconds.fraction)) at ∙ take_whole seconds.whole (46 ∷ seconds.fraction) in
    let back : drop (k + 1) text ≡ seconds.fraction =
    ap (λ (bs : List ℕ). drop (k + 1) bs) (whole_text text seconds) ∙ ap (λ (n : ℕ). drop (n + 1) (seconds.whole ++ 46 ∷ seconds.fraction)) at ∙ drop_whole seconds.whole seconds.fraction in (
      subst IsWholePart (sym front) seconds.whole_is,
      subst IsFractionalPart (sym back) seconds.fraction_is,
    )

pub no_seconds : (text : List ℕ) → IsFirstByte (is_byte 46) text None → IsSeconds text → ⊥
no_seconds text none seconds =
    let here = subst (λ (bs : List ℕ). IsFirstByte (is_byte 46) bs None) (whole_text text seconds) none in
    here (length seconds.whole) (omega arith) (point_within seconds.whole seconds.fraction) (eq-eqb _ 46 (point_there seconds.whole seconds.fraction))

-- a leading zero
pub leading_zero : (text : List ℕ) → 2 ≤ length text → get_or text 0 0 ≡ 48 → IsWholePart text → ⊥
leading_zero [] two is whole = omega (arith, two)
leading_zero (b ∷ []) two is whole = omega (arith, two)
leading_zero (b ∷ c ∷ text) two is whole = whole.no_leading_zero c text (ap (λ (d : ℕ). d ∷ c ∷ text) is)

pub no_leading_zero : (text : List ℕ) → (2 ≤ length text → get_or text 0 0 ≡ 48 → ⊥) → (digit : ℕ) (following : List ℕ) → text ≡ 48 ∷ digit ∷ following → ⊥
no_leading_zero text other digit following is =
    let two : 2 ≤ length text = subst (λ (bs : List ℕ). 2 ≤ length bs) (sym is) (omega arith) in
    other two (ap (λ (bs : List ℕ). get_or bs 0 0) is)
