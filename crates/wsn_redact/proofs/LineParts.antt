-- A comment that stays, and the CR of a line.
use Rattle.std.proofs.Common.{◌≡◌, ◌≢◌, ◌↔◌, ℕ, suc, ◌==◌, Bool, true, false, cond, List, [], ◌∷◌, length, IsTrue, inl, inr, refl, ap, ◌∙◌, arith}
use Rattle.std.specs.Prelude.{drop}
use Rattle.wsn_rules.specs.Entries.{without_cr}
use Rattle.wsn_rules.specs.ShownCapture.{GivesNoTime}
use Rattle.wsn_redact.specs.RedactedCaptures.{IsReset, Stays, cr_of}

reset_or_time : (text : List ℕ) → GivesNoTime text → Stays text → IsReset text
reset_or_time text none (inl (seconds, gives)) = absurd (none seconds gives)
reset_or_time text none (inr reset) = reset

pub only_reset : (text : List ℕ) (r : Bool) → GivesNoTime text → IsTrue r ↔ IsReset text → IsTrue r ↔ Stays text
only_reset text r none reset = (λ is. inr (reset.0 is), λ stays. reset.1 (reset_or_time text none stays))

is_cr : (b : ℕ) → (b == 13) ≡ true → b ≡ 13
is_cr b is = grind (arith)

single : (b : ℕ) (t : Bool) → (b == 13) ≡ t → length (without_cr (b ∷ [])) ≢ 1 → cr_of (b ∷ []) ≡ 13 ∷ []
single b true is other = ap (λ (t : Bool). drop (length (cond t [] (b ∷ []))) (b ∷ [])) is ∙ ap (λ (n : ℕ). n ∷ []) (is_cr b is)
single b false is other = absurd (other (ap (λ (t : Bool). length (cond t [] (b ∷ []))) is))

pub ends_cr : (line : List ℕ) → length (without_cr line) ≢ length line → cr_of line ≡ 13 ∷ []
ends_cr [] other = absurd (other refl)
ends_cr (b ∷ []) other = single b (b == 13) refl other
ends_cr (b ∷ c ∷ line) other = ends_cr (c ∷ line) (λ is. other (ap suc is))
