-- Of reasons that are each decided, the first that holds. There is at most one.
use Rattle.std.proofs.Common.{◌≡◌, ℕ, zero, suc, ◌<◌, ◌≤◌, ◌⊎◌, refl, sym, ap, ◌∙◌, subst, inl, inr, arith}
use Rattle.wsn_text.proofs.Numbers.{less_or_not}
use Rattle.wsn_rules.specs.declared.why.Why.{Why}
use Rattle.wsn_rules.specs.declared.why.Why.TheVariants.{KeyMismatch, StepsLeft, NoMessage, PieceTooLong, TooManyPieces, NotAControl, NotAMessage, WrongForm, EventsLeft}
use Rattle.wsn_rules.specs.Fault.{order_of, IsFirstWhy}
use Rattle.wsn_rules.proofs.DecidedRows.{Decided}
use Rattle.wsn_rules.proofs.LeastEvident.{LeastBelow, least_or_none}

-- ---- the reason with a number in the order

unfoldable pub why_at : ℕ → Why
why_at zero = KeyMismatch
why_at (suc zero) = StepsLeft
why_at (suc (suc zero)) = NoMessage
why_at (suc (suc (suc zero))) = PieceTooLong
why_at (suc (suc (suc (suc zero)))) = TooManyPieces
why_at (suc (suc (suc (suc (suc zero))))) = NotAControl
why_at (suc (suc (suc (suc (suc (suc zero)))))) = NotAMessage
why_at (suc (suc (suc (suc (suc (suc (suc zero))))))) = WrongForm
why_at (suc (suc (suc (suc (suc (suc (suc (suc n)))))))) = EventsLeft

pub why_at-order_of : (why : Why) → why_at (order_of why) ≡ why
unfolding why_at
why_at-order_of KeyMismatch = refl
why_at-order_of _ = refl

pub order_below : (why : Why) → order_of why < 9
order_below KeyMismatch = omega arith
order_below _ = omega arith

pub order_at : (n : ℕ) → order_of (why_at n) ≤ n
unfolding why_at
order_at zero = omega arith
order_at (suc zero) = omega arith
order_at (suc (suc zero)) = omega arith
order_at (suc (suc (suc zero))) = omega arith
order_at (suc (suc (suc (suc zero)))) = omega arith
order_at (suc (suc (suc (suc (suc zero))))) = omega arith
order_at (suc (suc (suc (suc (suc (suc zero)))))) = omega arith
order_at (suc (suc (suc (suc (suc (suc (suc zero))))))) = omega arith
order_at (suc (suc (suc (suc (suc (suc (suc (suc n)))))))) = omega arith

-- A number in the order has one reason.
pub same_order : (why other : Why) → order_of why ≡ order_of other → why ≡ other
same_order why other e = sym (why_at-order_of why) ∙ ap why_at e ∙ why_at-order_of other

-- ---- the first that holds

module _ (HoldsHere : Why → Type 0) where
  abbrev pub HasFirst : Type 0
  HasFirst = (why : Why) × IsFirstWhy HoldsHere why

  unfoldable pub first_of_least : LeastBelow (λ n. HoldsHere (why_at n)) 9 → HasFirst
  first_of_least least = (
    why_at least.0,
    record {
      holds = least.2;
      first = λ other holds. elim (less_or_not (order_of other) least.0) [
        | inl earlier ↦ absurd (least.3 (order_of other) earlier (subst HoldsHere (sym (why_at-order_of other)) holds))
        | inr later ↦ omega (arith, order_at least.0)
      ];
    },
  )

  unfoldable pub first_or_none : ((why : Why) → Decided (HoldsHere why)) → HasFirst ⊎ ((why : Why) → HoldsHere why → ⊥)
  first_or_none decided =
      elim (least_or_none (λ n. HoldsHere (why_at n)) (λ n. decided (why_at n)) 9) [
        | inl least ↦ inl (first_of_least least)
        | inr none ↦ inr (λ why holds. none (order_of why) (order_below why) (subst HoldsHere (sym (why_at-order_of why)) holds))
      ]

  pub one_first : (why other : Why) → IsFirstWhy HoldsHere why → IsFirstWhy HoldsHere other → why ≡ other
  one_first why other is also = same_order why other (omega (arith, is.first other also.holds, also.first why is.holds))
