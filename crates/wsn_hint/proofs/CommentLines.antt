-- The first line of a text, and what its lines say.
use Rattle.std.proofs.Common.{◌≡◌, ℕ, zero, suc, ◌≤◌, ◌<◌, ◌==◌, Bool, true, false, cond, List, [], ◌∷◌, length, take, drop, slice_index, Option, None, Some, is_some, IsTrue, ◌↔◌, refl, sym, ap, ◌∙◌, arith, ◌++◌, take-append-drop, take_at}
use Rattle.memchr.specs.Find.{FindsNeedle}
use Rattle.wsn_rules.specs.TextLines.{IsLine, before_first, lines_of}
use Rattle.wsn_rules.proofs.TextLines.{one_line}
use Rattle.wsn_hint.specs.Hints.{Begins}
use Rattle.wsn_hint.specs.Comments.{HasWord}

not_true : (test : Bool) → (test ≡ true → ⊥) → test ≡ false
not_true test never = grind arith

-- A line to the first LF.
pub line_to : (text : List ℕ) (n : ℕ) → ((k : ℕ) → 0 ≤ k → k < n → (slice_index text k == 10) ≡ true → ⊥) → n < length text
    → (slice_index text n == 10) ≡ true → lines_of text ≡ take n text ∷ lines_of (drop (suc n) text)
line_to [] n before within is = absurd (omega (arith, within))
line_to (b ∷ text) zero before within is =
    ap (λ (t : Bool). cond t ([] ∷ lines_of text) (before_first b (lines_of text))) is
line_to (b ∷ text) (suc n) before within is =
    ap (λ (t : Bool). cond t ([] ∷ lines_of text) (before_first b (lines_of text))) (not_true (b == 10) (before 0 (omega arith) (omega arith)))
    ∙ ap (before_first b) (line_to text n (λ k low high. before (suc k) (omega arith) (omega (arith, high))) (omega (arith, within)) is)

-- Bytes of which none is an LF.
in_line : (text : List ℕ) → ((k : ℕ) → 0 ≤ k → k < length text → (slice_index text k == 10) ≡ true → ⊥) → IsLine text
in_line [] none = tt
in_line (b ∷ text) none = (
  λ is. none 0 (omega arith) (omega arith) (ap (λ (m : ℕ). m == 10) is),
  in_line text (λ k low high. none (suc k) (omega arith) (omega (arith, high))),
)

pub line_alone : (text : List ℕ) → ((k : ℕ) → 0 ≤ k → k < length text → (slice_index text k == 10) ≡ true → ⊥) → 0 < length text
    → lines_of text ≡ text ∷ []
line_alone text none fact = grind (arith, one_line, in_line)

-- A line that begins with a label, by a test of its first bytes.
pub begins_of_front : (line label : List ℕ) (test : Bool) → IsTrue test ↔ (take (length label) line ≡ label) → IsTrue test ↔ Begins label line
begins_of_front line label test tests = (
  λ is. (drop (length label) line, sym (take-append-drop (length label) line) ∙ ap (λ (bs : List ℕ). bs ++ drop (length label) line) (tests.0 is)),
  λ begins. tests.1 (ap (take (length label)) begins.1 ∙ take_at label begins.0 (length label) refl),
)

-- A search for a word.
pub word_found : (line word : List ℕ) (result : Option ℕ) → FindsNeedle line word 0 result → IsTrue (is_some result) ↔ HasWord line word
word_found line word None none = (λ no. absurd (cc no), λ has. absurd (none has.0 (omega arith) (omega (arith, has.1.fits)) has.1))
word_found line word (Some k) first = (λ yes. (k, first.1), λ has. refl)
