-- Which states of a `Utf8` are whole, and after which bytes may follow.
use Rattle.std.proofs.Common.{◌≡◌, ◌≢◌, ℕ, List, [], ◌∷◌, Option, refl, sym, subst, append-nil, arith}
use Rattle.wsn_text.specs.Utf8.{Range, ◌–◌, IsText}
use Rattle.wsn_text.specs.Validated.{Follows, HasValidated}
use Rattle.wsn_text.specs.Expected.{awaited}
use Rattle.wsn_text.specs.declared.expected.Expected.{Expected}
use Rattle.wsn_text.specs.declared.expected.Expected.TheVariants.{Character, One, Two, TwoFromA0, TwoUpTo9F, Three, ThreeFrom90, ThreeUpTo8F, Nothing}
use Rattle.wsn_text.proofs.Rests.{text-nil, any}
use Rattle.wsn_text.proofs.Decide.{fill}

not_at_end : (expected : Expected) → expected ≢ Character → ¬ (Follows (awaited expected) [])
not_at_end Character other follows = other refl
not_at_end _ other follows = follows

pub text_between : (expected : Expected) (state : Option (List Range)) (taken : List ℕ) → awaited expected ≡ state → expected ≡ Character → HasValidated state taken → IsText taken
text_between expected state taken seen between has =
    let follows : Follows (awaited expected) [] = subst (λ (e : Expected). Follows (awaited e) []) (sym between) text-nil in
    subst IsText (append-nil taken) ((has.continues []).1 (subst (λ (ranges : Option (List Range)). Follows ranges []) seen follows))

pub no_text_inside : (expected : Expected) (state : Option (List Range)) (taken : List ℕ) → awaited expected ≡ state → expected ≢ Character → HasValidated state taken → ¬ (IsText taken)
no_text_inside expected state taken seen inside has text =
    let follows : Follows state [] = (has.continues []).0 (subst IsText (sym (append-nil taken)) text) in
    not_at_end expected inside (subst (λ (ranges : Option (List Range)). Follows ranges []) (sym seen) follows)

pub follows_good : (expected : Expected) → expected ≢ Nothing → (more : List ℕ) × Follows (awaited expected) more
follows_good Character other = fill [] tt
follows_good One other = fill (any ∷ []) (omega arith, tt)
follows_good Two other = fill (any ∷ any ∷ []) (omega arith, (omega arith, tt))
follows_good TwoFromA0 other = fill ((0xA0 – 0xBF) ∷ any ∷ []) (omega arith, (omega arith, tt))
follows_good TwoUpTo9F other = fill ((0x80 – 0x9F) ∷ any ∷ []) (omega arith, (omega arith, tt))
follows_good Three other = fill (any ∷ any ∷ any ∷ []) (omega arith, (omega arith, (omega arith, tt)))
follows_good ThreeFrom90 other = fill ((0x90 – 0xBF) ∷ any ∷ any ∷ []) (omega arith, (omega arith, (omega arith, tt)))
follows_good ThreeUpTo8F other = fill ((0x80 – 0x8F) ∷ any ∷ any ∷ []) (omega arith, (omega arith, (omega arith, tt)))
follows_good Nothing other = absurd (other refl)
