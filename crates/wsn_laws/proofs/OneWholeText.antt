-- A text has one redaction at most.
use Rattle.std.proofs.Common.{◌≡◌, ℕ, List, [], ◌∷◌, ◌++◌, length, drop, inl, inr, refl, sym, ap, ◌∙◌, subst, length-append, arith}
use Rattle.std.proofs.lemmas.List.{append_cancel_left}
use Rattle.wsn_rules.specs.Limits.{Limits}
use Rattle.wsn_rules.specs.TextLines.{ended}
use Rattle.wsn_rules.proofs.TextLines.{ended-push, same_lines}
use Rattle.wsn_redact.specs.RedactedCaptures.{IsRedactedCapture}
use Rattle.wsn_redact.specs.RedactingCaptures.{EndAlike, IsWholeText}
use Rattle.wsn_laws.proofs.OneRedactedCapture.{one_capture}

-- two lists that end with one element each
same_ends : {A : Type 0} (xs ys : List A) (a b : A) → xs ++ a ∷ [] ≡ ys ++ b ∷ [] → (xs ≡ ys) × (a ≡ b)
same_ends [] [] a b is = (refl, cc)
same_ends [] (y ∷ ys) a b is = absurd (no_more ys b (ap (λ (l : List _). length (drop 1 l)) is))
  where
    no_more : {B : Type 0} (l : List B) (x : B) → 0 ≡ length (l ++ x ∷ []) → ⊥
    no_more l x size = omega (arith, size, length-append l (x ∷ []))
same_ends (x ∷ xs) [] a b is = absurd (no_more xs a (ap (λ (l : List _). length (drop 1 l)) (sym is)))
  where
    no_more : {B : Type 0} (l : List B) (x : B) → 0 ≡ length (l ++ x ∷ []) → ⊥
    no_more l x size = omega (arith, size, length-append l (x ∷ []))
same_ends (x ∷ xs) (y ∷ ys) a b is =
    let rest = same_ends xs ys a b (ap (λ (l : List _). drop 1 l) is) in
    let tail = rest.0 in
    (cc (is, tail), rest.1)

-- the last line has an LF, or hasn't
not_both : (came : List ℕ) (before : List (List ℕ)) (last : List ℕ) → came ≡ ended (before ++ last ∷ []) → came ≡ ended before ++ last → ⊥
not_both came before last whole short =
    let same : last ++ 10 ∷ [] ≡ last = append_cancel_left (ended before) (last ++ 10 ∷ []) last (sym (ended-push before last) ∙ sym whole ∙ short) in
    let size : length (last ++ 10 ∷ []) ≡ length last = ap (λ (l : List ℕ). length l) same in
    omega (arith, size, length-append last (10 ∷ []))

same_text : (came text other : List ℕ) (lines redacted : List (List ℕ)) → EndAlike came text lines redacted → EndAlike came other lines redacted → text ≡ other
same_text came text other lines redacted (inl is) (inl too) = is.1 ∙ sym too.1
same_text came text other lines redacted (inl is) (inr too) = absurd (not_both came too.before too.last (is.0 ∙ ap ended too.lines_are) too.came_is)
same_text came text other lines redacted (inr is) (inl too) = absurd (not_both came is.before is.last (too.0 ∙ ap ended is.lines_are) is.came_is)
same_text came text other lines redacted (inr is) (inr too) =
    let ends = same_ends is.became too.became is.last_became too.last_became (sym is.redacted_are ∙ too.redacted_are) in
    is.text_is ∙ ap (λ (ls : List (List ℕ)). ended ls ++ is.last_became) ends.0 ∙ ap (λ (l : List ℕ). ended too.became ++ l) ends.1 ∙ sym too.text_is

pub one_whole_text : (limits : Limits) (came text other : List ℕ) → IsWholeText limits came text → IsWholeText limits came other → text ≡ other
one_whole_text limits came text other is too =
    let lines = same_lines came is.lines too.lines is.are_lines too.are_lines in
    let too_redacted = subst (λ (ls : List (List ℕ)). IsRedactedCapture limits ls too.redacted) (sym lines) too.is_redacted in
    let redacted = one_capture limits is.lines is.redacted too.redacted is.is_redacted too_redacted in
    same_text came text other is.lines is.redacted is.alike
    (subst (λ (rs : List (List ℕ)). EndAlike came other is.lines rs) (sym redacted) (subst (λ (ls : List (List ℕ)). EndAlike came other ls too.redacted) (sym lines) too.alike))
