use Rattle.std.proofs.Common.{◌≡◌, ℕ, ◌+◌, ◌-◌, ◌≤◌, ◌⊎◌, List, [], ◌∷◌, ◌++◌, length, take, drop, inl, inr, refl, sym, ap, ◌∙◌, arith, length-append, length-drop}
use Rattle.std.proofs.lemmas.List.{take-append-drop}
use Rattle.wsn_text.proofs.Numbers.{less_or_not}
use Rattle.wsn_text.proofs.LongestText.{bad_len}
use Rattle.wsn_text.proofs.unfinished.bad_character_len.Goals as goal

pub overflow_add-result : goal.overflow_add-result
overflow_add-result c =
    let size = c.in-Some.ensures.cases.1 in
    let few = c.unfinished_bytes.ensures.within in
    let short = c.well_formed.0.0 in
    omega (arith, size, few, short)

pub returns-in-Some-clause-within : goal.returns-in-Some-clause-within
returns-in-Some-clause-within c =
    let size = c.in-Some.ensures.cases.1 in
    let fits = c.unfinished_bytes.ensures.within in
    omega (arith, size, fits)

-- The last four bytes but one are three, or all that come before it.
before_is : (text before : List ℕ) (b : ℕ) → before ++ b ∷ [] ≡ drop (length text - 4) text → (3 ≤ length before) ⊎ (◌≡◌ {A = List ℕ} (take (length text - 4) text) [])
before_is text before b is =
    let size : length before + 1 ≡ length text - (length text - 4) = sym (length-append before (b ∷ [])) ∙ ap (λ (bs : List ℕ). length bs) is ∙ length-drop (length text - 4) text in
    elim (less_or_not (length text) 4) [
      | inr long ↦ inl (omega (arith, size, long))
      | inl short ↦ let none : length text - 4 ≡ 0 = omega (arith, short) in inr (ap (λ (n : ℕ). take n text) none)
    ]

pub returns-in-Some-clause-bad : goal.returns-in-Some-clause-bad
returns-in-Some-clause-bad c text i bad last is =
    let before = c.in-Some.before.now in
    let b = c.in-Some.field-0-0.now in
    let skipped = take (length text - 4) text in
    let parts : before ++ b ∷ [] ≡ drop (length text - 4) text = sym c.in-Some.ensures.cases.0 ∙ is in
    let whole : text ≡ skipped ++ (before ++ b ∷ []) = sym (take-append-drop (length text - 4) text) ∙ ap (λ (bs : List ℕ). skipped ++ bs) (sym parts) in
    bad_len text skipped before b i c.unfinished_bytes.result whole bad last (λ begins. c.unfinished_bytes.ensures.text (skipped ++ before) skipped refl (before_is text before b parts) begins)

pub returns-in-None-clause-within : goal.returns-in-None-clause-within
returns-in-None-clause-within c = omega arith

pub returns-in-None-clause-bad : goal.returns-in-None-clause-bad
returns-in-None-clause-bad c text i bad last is =
    let none = c.in-None.ensures.cases in
    let size = length-drop (length text - 4) text in
    let same : length c.args.last.now ≡ length (drop (length text - 4) text) = ap (λ (bs : List ℕ). length bs) is in
    absurd (omega (arith, none, size, same, last))
