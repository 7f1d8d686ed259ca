-- The fault that the law finds, where it computes: for a plan that is written out.
use Rattle.std.proofs.Common.{◌≡◌, ℕ, List, Bool, true, false, ◌&&◌, ◌==◌, inl, inr, subst}
use Rattle.std.proofs.lemmas.Bool.{and_parts, eqb-true, false≢true}
use Rattle.wsn_text.proofs.Numbers.{less_or_not, same_or_not}
use Rattle.wsn_wire.specs.declared.endpoint.Role.{Role}
use Rattle.wsn_rules.specs.declared.step.Step.{Step}
use Rattle.wsn_rules.specs.declared.why.Why.{Why}
use Rattle.wsn_rules.specs.Limits.{Limits}
use Rattle.wsn_rules.specs.Meaning.{MeantEvent}
use Rattle.wsn_rules.specs.Fitting.{Fits}
use Rattle.wsn_rules.specs.Fault.{order_of, IsFault}
use Rattle.wsn_rules.proofs.Computed.{in_range, range_by_test}
use Rattle.wsn_rules.proofs.DecidedRows.{both, denied, less, at_most}
use Rattle.wsn_rules.proofs.LeastEvident.{least_or_none}
use Rattle.wsn_rules.proofs.PlanTheory.FirstReason.{why_at, first_of_least, first_or_none, same_order}
use Rattle.wsn_rules.proofs.PlanTheory.RowsDecided.{some_with, key_given, allowed_form, no_event, no_text, of_message, with_message, with_control, too_long, one_too_many, wrong_form, not_a_control, not_a_message, row_decided}
use Rattle.wsn_rules.proofs.PlanTheory.Faults.{FitsOrFault, moved, walked_on, fits_or_fault}

module _ (role : Role) (limits : Limits) (events : List MeantEvent) where
  unfoldable pub decoded : (plan : List Step) → in_range limits ≡ true → FitsOrFault role limits events plan
  unfolding less_or_not same_or_not both denied less at_most least_or_none why_at first_of_least first_or_none some_with key_given allowed_form no_event no_text of_message with_message with_control too_long one_too_many wrong_form not_a_control not_a_message row_decided moved walked_on fits_or_fault
  decoded plan range = fits_or_fault role limits events plan (range_by_test limits range)

  abbrev pub reports_fault : {plan : List Step} → ℕ → Why → FitsOrFault role limits events plan → Bool
  reports_fault step why (inl fits) = false
  reports_fault step why (inr fault) = (fault.0 == step) && (order_of fault.1 == order_of why)

  abbrev pub reports_fits : {plan : List Step} → FitsOrFault role limits events plan → Bool
  reports_fits (inl fits) = true
  reports_fits (inr fault) = false

  fault_by_test : (plan : List Step) (step : ℕ) (why : Why) (found : FitsOrFault role limits events plan) → reports_fault step why found ≡ true → IsFault role limits plan events step why
  fault_by_test plan step why (inl fits) test = absurd (false≢true test)
  fault_by_test plan step why (inr fault) test =
      let parts = and_parts (fault.0 == step) (order_of fault.1 == order_of why) test in
      subst (λ (n : ℕ). IsFault role limits plan events n why) (eqb-true fault.0 step parts.0)
      (subst (IsFault role limits plan events fault.0) (same_order fault.1 why (eqb-true (order_of fault.1) (order_of why) parts.1)) fault.2)

  fits_by_test : (plan : List Step) (found : FitsOrFault role limits events plan) → reports_fits found ≡ true → Fits role limits plan events
  fits_by_test plan (inl fits) test = fits
  fits_by_test plan (inr fault) test = absurd (false≢true test)

  pub is_fault : (plan : List Step) (step : ℕ) (why : Why) (range : in_range limits ≡ true) → reports_fault step why (decoded plan range) ≡ true → IsFault role limits plan events step why
  is_fault plan step why range test = fault_by_test plan step why (decoded plan range) test

  pub does_fit : (plan : List Step) (range : in_range limits ≡ true) → reports_fits (decoded plan range) ≡ true → Fits role limits plan events
  does_fit plan range test = fits_by_test plan (decoded plan range) test
