use Rattle.std.proofs.Common.{ℕ, ◌↔◌, List, ◌∷◌, inr, sym, subst, arith}
use Rattle.wsn_text.specs.Utf8.{IsText}
use Rattle.wsn_text.specs.Validated.{Follows}
use Rattle.wsn_text.specs.Expected.{awaited}
use Rattle.wsn_text.specs.declared.expected.Expected.{Expected}
use Rattle.wsn_text.proofs.Rests.{after_ascii, after_two, after_E0, after_E1_to_EC, after_ED, after_F0, after_F1_to_F3, after_F4, after_none}
use Rattle.wsn_text.proofs.expected.Expected.first_byte.Goals as goal

-- The byte comes before what this state expects.
abbrev Before : ℕ → List ℕ → Expected → Type 0
Before byte more expected = IsText (byte ∷ more) ↔ Follows (awaited expected) more

pub returns-in-Character : goal.returns-in-Character
returns-in-Character c more = subst (Before 0x00 more) (sym c.in-Character.is) (after_ascii 0x00 (omega arith) more)

pub returns-in-One : goal.returns-in-One
returns-in-One c more = subst (Before 0xC2 more) (sym c.in-One.is) (after_two 0xC2 (omega arith) more)

pub returns-in-Two : goal.returns-in-Two
returns-in-Two c more = subst (Before 0xE1 more) (sym c.in-Two.is) (after_E1_to_EC 0xE1 (omega arith) more)

pub returns-in-TwoFromA0 : goal.returns-in-TwoFromA0
returns-in-TwoFromA0 c more = subst (Before 0xE0 more) (sym c.in-TwoFromA0.is) (after_E0 0xE0 (omega arith) more)

pub returns-in-TwoUpTo9F : goal.returns-in-TwoUpTo9F
returns-in-TwoUpTo9F c more = subst (Before 0xED more) (sym c.in-TwoUpTo9F.is) (after_ED 0xED (omega arith) more)

pub returns-in-Three : goal.returns-in-Three
returns-in-Three c more = subst (Before 0xF1 more) (sym c.in-Three.is) (after_F1_to_F3 0xF1 (omega arith) more)

pub returns-in-ThreeFrom90 : goal.returns-in-ThreeFrom90
returns-in-ThreeFrom90 c more = subst (Before 0xF0 more) (sym c.in-ThreeFrom90.is) (after_F0 0xF0 (omega arith) more)

pub returns-in-ThreeUpTo8F : goal.returns-in-ThreeUpTo8F
returns-in-ThreeUpTo8F c more = subst (Before 0xF4 more) (sym c.in-ThreeUpTo8F.is) (after_F4 0xF4 (omega arith) more)

pub returns-in-Nothing : goal.returns-in-Nothing
returns-in-Nothing c more = subst (Before 0xFF more) (sym c.in-Nothing.is) (after_none 0xFF (inr (omega arith)) more, λ none. absurd none)
