-- What is so of the first hint of a list that fits.
use Rattle.std.proofs.Common.{◌≡◌, Option, None, Some, List, [], ◌∷◌, ◌++◌, inl, inr, sym, subst, refl, arith}
use Rattle.std.specs.Prelude.{◌↔◌, Bool, true, false, IfSome, IsTrue}
use Rattle.std.proofs.lemmas.Bool.{iff_false}
use Rattle.wsn_hint.specs.declared.hint.Hint.{Hint}
use Rattle.wsn_hint.specs.Hints.{IsFirstFit}

-- A hint that is given fits.
pub fits_of_first : (fits : Hint → Type 0) (hints : List Hint) (result : Option Hint) → IsFirstFit fits hints result → IfSome result fits
fits_of_first fits [] None is = cc
fits_of_first fits [] (Some hint) is = absurd (cc is)
fits_of_first fits (hint ∷ later) result (inl first) = subst (λ (o : Option Hint). IfSome o fits) (sym first.1) first.0
fits_of_first fits (hint ∷ later) result (inr others) = fits_of_first fits later result others.1

-- A hint that is the first of some hints is the first of these and more.
pub first_of_more : (fits : Hint → Type 0) (hints more : List Hint) (hint : Hint) → IsFirstFit fits hints (Some hint) → IsFirstFit fits (hints ++ more) (Some hint)
first_of_more fits [] more hint is = absurd (cc is)
first_of_more fits (tried ∷ later) more hint (inl first) = inl first
first_of_more fits (tried ∷ later) more hint (inr others) = inr (others.0, first_of_more fits later more hint others.1)

-- Where none of some hints fits, the first of more hints is the first of both.
pub first_after : (fits : Hint → Type 0) (hints more : List Hint) (result : Option Hint) → IsFirstFit fits hints None → IsFirstFit fits more result → IsFirstFit fits (hints ++ more) result
first_after fits [] more result none is = is
first_after fits (tried ∷ later) more result (inl first) is = absurd (cc first.1)
first_after fits (tried ∷ later) more result (inr others) is = inr (others.0, first_after fits later more result others.1 is)

-- A hint is given where its test succeeds.
pub first_at : (fits : Hint → Type 0) (hint : Hint) (later : List Hint) (test : Bool) → IsTrue test ↔ fits hint → test ≡ true → IsFirstFit fits (hint ∷ later) (Some hint)
first_at fits hint later test tests is = inl (tests.0 is, refl)

-- A later hint is tried where its test fails.
pub first_past : (fits : Hint → Type 0) (hint : Hint) (later : List Hint) (result : Option Hint) (test : Bool) → IsTrue test ↔ fits hint → test ≡ false → IsFirstFit fits later result → IsFirstFit fits (hint ∷ later) result
first_past fits hint later result test tests is first = inr (iff_false tests is, first)

-- The first of some hints is the first of these and more, where none of more fits.
pub first_before : (fits : Hint → Type 0) (hints more : List Hint) (result : Option Hint) → IsFirstFit fits hints result → IsFirstFit fits more None → IsFirstFit fits (hints ++ more) result
first_before fits hints more result first none = grind (arith, first_after, first_of_more)
