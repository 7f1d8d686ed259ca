-- What became of two streams has an outcome, which computes.
use Rattle.std.proofs.Common.{◌≡◌, ℕ, zero, suc, ◌+◌, ◌≤◌, ◌⊎◌, Bool, true, false, inl, inr, refl, sym, ap, ◌∙◌, subst, arith}
use Rattle.std.proofs.lemmas.Bool.{cases_eq}
use Rattle.wsn_rules.specs.declared.closing_handshake.Side.{Side}
use Rattle.wsn_rules.specs.declared.closing_handshake.Side.TheVariants.{Closed, Refused, Ended, Cut, Running}
use Rattle.wsn_rules.specs.declared.closing_handshake.Outcome.{Outcome}
use Rattle.wsn_rules.specs.declared.closing_handshake.Outcome.TheVariants.{Failed, Clean, Complete, Abnormal, Half, Live}
use Rattle.wsn_rules.specs.ClosingHandshake.{IsRefusedSide, IsClosedSide, IsEndedEarly, OutcomeFits, outcome_order, IsOutcome}

abbrev pub outcome_at : ℕ → Outcome
outcome_at zero = Failed
outcome_at (suc zero) = Clean
outcome_at (suc (suc zero)) = Complete
outcome_at (suc (suc (suc zero))) = Abnormal
outcome_at (suc (suc (suc (suc zero)))) = Half
outcome_at (suc (suc (suc (suc (suc n))))) = Live

pub at_its_place : (outcome : Outcome) → outcome_at (outcome_order outcome) ≡ outcome
at_its_place Failed = refl
at_its_place _ = refl

pub order_at : (n : ℕ) → n ≤ 5 → outcome_order (outcome_at n) ≡ n
order_at zero le = refl
order_at (suc zero) le = refl
order_at (suc (suc zero)) le = refl
order_at (suc (suc (suc zero))) le = refl
order_at (suc (suc (suc (suc zero)))) le = refl
order_at (suc (suc (suc (suc (suc n))))) le = omega (arith, le)

-- A fact that holds, or doesn't.
abbrev pub Decided : Type 0 → Type 0
Decided A = A ⊎ (A → ⊥)

refused_or_not : (side : Side) → Decided (IsRefusedSide side)
refused_or_not (Closed code) = inr (λ is. is)
refused_or_not (Refused refusal) = inl tt
refused_or_not Ended = inr (λ is. is)
refused_or_not Cut = inr (λ is. is)
refused_or_not Running = inr (λ is. is)

closed_or_open : (side : Side) → Decided (IsClosedSide side)
closed_or_open (Closed code) = inl tt
closed_or_open (Refused refusal) = inr (λ is. is)
closed_or_open Ended = inr (λ is. is)
closed_or_open Cut = inr (λ is. is)
closed_or_open Running = inr (λ is. is)

early_or_not : (side : Side) → Decided (IsEndedEarly side)
early_or_not (Closed code) = inr (λ is. is)
early_or_not (Refused refusal) = inr (λ is. is)
early_or_not Ended = inl tt
early_or_not Cut = inl tt
early_or_not Running = inr (λ is. is)

true_or_not : (b : Bool) → Decided (b ≡ true)
true_or_not true = inl refl
true_or_not false = inr (λ is. cc is)

one_of : {A B : Type 0} → Decided A → Decided B → Decided (A ⊎ B)
one_of (inl a) b = inl (inl a)
one_of (inr none) (inl b) = inl (inr b)
one_of (inr none) (inr neither) = inr (λ is. elim is [ inl a ↦ none a | inr b ↦ neither b ])

pub both : {A B : Type 0} → Decided A → Decided B → Decided (A × B)
both (inl a) (inl b) = inl (a, b)
both (inl a) (inr none) = inr (λ is. none is.1)
both (inr none) b = inr (λ is. none is.0)

module _ (client server : Side) (client_ended server_ended : Bool) where
  fits_or_not : (outcome : Outcome) → Decided (OutcomeFits client server client_ended server_ended outcome)
  unfolding refused_or_not closed_or_open early_or_not true_or_not one_of both
  fits_or_not Failed = one_of (refused_or_not client) (refused_or_not server)
  fits_or_not Clean =
      elim (both (both (closed_or_open client) (closed_or_open server)) (both (true_or_not client_ended) (true_or_not server_ended))) [
        | inl all ↦ inl (all.0.0, all.0.1, all.1.0, all.1.1)
        | inr none ↦ inr (λ is. none ((is.0, is.1), (is.2, is.3)))
      ]
  fits_or_not Complete = both (closed_or_open client) (closed_or_open server)
  fits_or_not Abnormal = one_of (early_or_not client) (early_or_not server)
  fits_or_not Half = one_of (closed_or_open client) (closed_or_open server)
  fits_or_not Live = inl tt

  -- No outcome before this number fits.
  abbrev pub NoneBefore : ℕ → Type 0
  NoneBefore n = (other : Outcome) → OutcomeFits client server client_ended server_ended other → n ≤ outcome_order other

  pub none_there : (n : ℕ) → NoneBefore n → (OutcomeFits client server client_ended server_ended (outcome_at n) → ⊥) → NoneBefore (suc n)
  none_there n before none other held =
      let following = before other held in
      elim (cases_eq (outcome_order other) n) [
        | inl here ↦ absurd (none (subst (OutcomeFits client server client_ended server_ended) (sym (at_its_place other) ∙ ap outcome_at here) held))
        | inr there ↦ omega (arith, following, there)
      ]

  from : (left n : ℕ) → n + left ≡ 5 → NoneBefore n → (outcome : Outcome) × IsOutcome client server client_ended server_ended outcome
  unfolding fits_or_not
  from zero n offset before = (Live, record { fits = tt; first = λ other held. let following = before other held in omega (arith, offset, following) })
  from (suc left) n offset before =
      let at = order_at n (omega (arith, offset)) in
      elim (fits_or_not (outcome_at n)) [
        | inl fits ↦ (outcome_at n, record { fits = fits; first = λ other held. let following = before other held in omega (arith, at, following) })
        | inr none ↦ from left (suc n) (omega (arith, offset)) (none_there n before none)
      ]

  unfoldable pub has_outcome : (outcome : Outcome) × IsOutcome client server client_ended server_ended outcome
  unfolding from
  has_outcome = from 5 0 refl (λ other held. omega arith)

  -- the outcome that computes
  pub is_outcome : (outcome : Outcome) → has_outcome.0 ≡ outcome → IsOutcome client server client_ended server_ended outcome
  is_outcome outcome same = subst (IsOutcome client server client_ended server_ended) same has_outcome.1
