-- Whether a text is a time is decided, so a time or none holds after any lines.
use Rattle.std.proofs.Common.{◌≡◌, ℕ, ◌≤◌, Option, None, Some, List, [], ◌∷◌, ◌++◌, ◌⊎◌, length, refl, sym, ap, ◌∙◌, subst, inl, inr, append_assoc, arith}
use Rattle.std.specs.List.{AllByRecursion}
use Rattle.std.proofs.lemmas.Bool.{cases_lt, cases_eq}
use Rattle.wsn_rules.specs.Entries.{without_cr}
use Rattle.wsn_rules.specs.ShownCapture.{IsDigit, IsWholePart, IsFractionalPart, IsSeconds, GivesTime, GivesNoTime, IsNoTime, IsTimeAfter}
use Rattle.wsn_rules.proofs.Prefixes.{head_same, tail_same}
use Rattle.wsn_rules.proofs.Outcomes.{Decided, both}

-- ---- digits

at_most : (m n : ℕ) → Decided (m ≤ n)
at_most m n =
    elim (cases_lt n m) [
      | inl less ↦ inr (λ le. omega (arith, less, le))
      | inr le ↦ inl le
    ]

are_digits : (bs : List ℕ) → Decided (AllByRecursion IsDigit bs)
are_digits [] = inl tt
are_digits (b ∷ bs) = both (both (at_most 48 b) (at_most b 57)) (are_digits bs)

-- No leading zero before another digit.
abbrev HasNoLeadingZero : List ℕ → Type 0
HasNoLeadingZero whole = (digit : ℕ) (following : List ℕ) → whole ≡ 48 ∷ digit ∷ following → ⊥

has_no_leading_zero : (whole : List ℕ) → Decided (HasNoLeadingZero whole)
has_no_leading_zero [] = inl (λ digit following is. cc is)
has_no_leading_zero (b ∷ []) = inl (λ digit following is. cc is)
has_no_leading_zero (b ∷ d ∷ bs) =
    elim (cases_eq b 48) [
      | inl zero ↦ inr (λ none. none d bs (ap (λ n. n ∷ d ∷ bs) zero))
      | inr other ↦ inl (λ digit following is. other (head_same b 48 (d ∷ bs) (digit ∷ following) is))
    ]

whole_part : (whole : List ℕ) → Decided (IsWholePart whole)
whole_part whole =
    elim (both (are_digits whole) (both (at_most 1 (length whole)) (has_no_leading_zero whole))) [
      | inl p ↦ inl (record { digits = p.0; some = p.1.0; no_leading_zero = p.1.1 })
      | inr none ↦ inr (λ a. none (a.digits, (a.some, a.no_leading_zero)))
    ]

fractional_part : (fraction : List ℕ) → Decided (IsFractionalPart fraction)
fractional_part fraction =
    elim (both (are_digits fraction) (both (at_most 1 (length fraction)) (at_most (length fraction) 9))) [
      | inl p ↦ inl (record { digits = p.0; some = p.1.0; few = p.1.1 })
      | inr none ↦ inr (λ a. none (a.digits, (a.some, a.few)))
    ]

-- ---- the point

-- No byte is a point.
abbrev HaveNoPoint : List ℕ → Type 0
HaveNoPoint bs = AllByRecursion (λ (b : ℕ). b ≡ 46 → ⊥) bs

record AtPoint (text : List ℕ) : Type 0 where
  pub whole : List ℕ
  pub fraction : List ℕ
  pub is : text ≡ whole ++ 46 ∷ fraction
  pub first : HaveNoPoint whole

at_point : (text : List ℕ) → AtPoint text ⊎ HaveNoPoint text
at_point [] = inr tt
at_point (b ∷ text) =
    elim (cases_eq b 46) [
      | inl is ↦ inl (record { whole = []; fraction = text; is = ap (λ n. n ∷ text) is; first = tt })
      | inr other ↦ elim (at_point text) [
        | inl p ↦ inl (record { whole = b ∷ p.whole; fraction = p.fraction; is = ap (λ (bs : List ℕ). b ∷ bs) p.is; first = (other, p.first) })
        | inr none ↦ inr (other, none)
      ]
    ]

one_point : (whole other fraction rest : List ℕ) → whole ++ 46 ∷ fraction ≡ other ++ 46 ∷ rest → HaveNoPoint whole → HaveNoPoint other → (whole ≡ other) × (fraction ≡ rest)
one_point [] [] fraction rest is none also = (refl, tail_same 46 46 fraction rest is)
one_point [] (o ∷ other) fraction rest is none also = absurd (also.0 (sym (head_same 46 o fraction (other ++ 46 ∷ rest) is)))
one_point (w ∷ whole) [] fraction rest is none also = absurd (none.0 (head_same w 46 (whole ++ 46 ∷ fraction) rest is))
one_point (w ∷ whole) (o ∷ other) fraction rest is none also =
    let first = head_same w o (whole ++ 46 ∷ fraction) (other ++ 46 ∷ rest) is in
    let following = one_point whole other fraction rest (tail_same w o (whole ++ 46 ∷ fraction) (other ++ 46 ∷ rest) is) none.1 also.1 in
    (cc (first, following.0), following.1)

no_point_in_digits : (bs : List ℕ) → AllByRecursion IsDigit bs → HaveNoPoint bs
no_point_in_digits [] all = tt
no_point_in_digits (b ∷ bs) all = ((λ is. let least = all.0.0 in omega (arith, least, is)), no_point_in_digits bs all.1)

point_there : (whole fraction : List ℕ) → HaveNoPoint (whole ++ 46 ∷ fraction) → ⊥
point_there [] fraction none = none.0 refl
point_there (b ∷ whole) fraction none = point_there whole fraction none.1

-- ---- seconds

parts_are : (text : List ℕ) (s : IsSeconds text) → text ≡ s.whole ++ 46 ∷ s.fraction
parts_are text s = s.is ∙ append_assoc s.whole (46 ∷ []) s.fraction

is_seconds : (text : List ℕ) → Decided (IsSeconds text)
is_seconds text =
    elim (at_point text) [
      | inr none ↦ inr (λ s. point_there s.whole s.fraction (subst HaveNoPoint (parts_are text s) none))
      | inl p ↦ elim (both (whole_part p.whole) (fractional_part p.fraction)) [
        | inl parts ↦ inl (record {
          whole = p.whole;
          fraction = p.fraction;
          is = p.is ∙ sym (append_assoc p.whole (46 ∷ []) p.fraction);
          whole_is = parts.0;
          fraction_is = parts.1;
        })
        | inr none ↦ inr (λ s.
            let same = one_point s.whole p.whole s.fraction p.fraction (sym (parts_are text s) ∙ p.is) (no_point_in_digits s.whole s.whole_is.digits) p.first in
            none (subst IsWholePart same.0 s.whole_is, subst IsFractionalPart same.1 s.fraction_is))
      ]
    ]

-- ---- times

pub gives_time : (text : List ℕ) → ((seconds : List ℕ) × GivesTime text seconds) ⊎ GivesNoTime text
gives_time [] = inr (λ seconds g. let e : [] ≡ 35 ∷ 32 ∷ seconds = g.0 in cc)
gives_time (a ∷ []) = inr (λ seconds g. let e : a ∷ [] ≡ 35 ∷ 32 ∷ seconds = g.0 in cc)
gives_time (a ∷ b ∷ text) =
    elim (both (same a 35) (both (same b 32) (is_seconds text))) [
      | inl p ↦ inl (text, (ap (λ n. n ∷ b ∷ text) p.0 ∙ ap (λ n. 35 ∷ n ∷ text) p.1.0, p.1.1))
      | inr none ↦ inr (λ seconds g.
          let e : a ∷ b ∷ text ≡ 35 ∷ 32 ∷ seconds = g.0 in
          let rest = tail_same a 35 (b ∷ text) (32 ∷ seconds) e in
          none (head_same a 35 (b ∷ text) (32 ∷ seconds) e, (head_same b 32 text seconds rest, subst IsSeconds (sym (tail_same b 32 text seconds rest)) g.1)))
    ]
  where
    same : (m n : ℕ) → Decided (m ≡ n)
    same m n = cases_eq m n

-- The time that holds after one more line.
pub time_after : (before : List (List ℕ)) (line : List ℕ) (time : Option (List ℕ)) → IsTimeAfter before time → (next : Option (List ℕ)) × IsTimeAfter (before ++ line ∷ []) next
time_after before line time is =
    elim (gives_time (without_cr line)) [
      | inl p ↦ (Some p.0, (before, [], line, refl, p.1, tt))
      | inr none ↦ (time, no_change time is none)
    ]
  where
    push : (lines : List (List ℕ)) → AllByRecursion IsNoTime lines → IsNoTime line → AllByRecursion IsNoTime (lines ++ line ∷ [])
    push [] all none = (none, tt)
    push (l ∷ lines) all none = (all.0, push lines all.1 none)

    no_change : (time : Option (List ℕ)) → IsTimeAfter before time → IsNoTime line → IsTimeAfter (before ++ line ∷ []) time
    no_change None all none = push before all none
    no_change (Some seconds) p none =
        (p.0, p.1 ++ line ∷ [], p.2, ap (λ (ls : List (List ℕ)). ls ++ line ∷ []) p.3 ∙ append_assoc p.0 (p.2 ∷ p.1) (line ∷ []), p.4, push p.1 p.5 none)
