-- A plan fits, or has exactly one fault.
use Rattle.std.proofs.Common.{◌≡◌, ℕ, ◌≤◌, ◌⊎◌, ◌∷◌, ◌++◌, [], List, length, sym, ap, ◌∙◌, subst, inl, inr, arith, append-nil}
use Rattle.std.proofs.lemmas.List.{length-append}
use Rattle.wsn_wire.specs.declared.endpoint.Role.{Role}
use Rattle.wsn_rules.specs.declared.step.Step.{Step}
use Rattle.wsn_rules.specs.declared.why.Why.{Why}
use Rattle.wsn_rules.specs.declared.why.Why.TheVariants.{EventsLeft}
use Rattle.wsn_rules.specs.Limits.{Limits, InRange}
use Rattle.wsn_rules.specs.Meaning.{MeantEvent}
use Rattle.wsn_rules.specs.Plan.{pending, total, events_left}
use Rattle.wsn_rules.specs.Fitting.{BeginsToFit, Fits}
use Rattle.wsn_rules.specs.Fault.{HoldsAfter, IsWhy, IsFault}
use Rattle.wsn_rules.proofs.Prefixes.{push-append, same_front}
use Rattle.wsn_rules.proofs.PlanTheory.FirstReason.{first_or_none, one_first}
use Rattle.wsn_rules.proofs.PlanTheory.RowsDecided.{no_event, row_decided}
use Rattle.wsn_rules.proofs.PlanTheory.FitsFromTheFront.{begins_nil}
use Rattle.wsn_rules.proofs.PlanTheory.Walked.{goes_on, fault_at, events_left_at}

module _ (role : Role) (limits : Limits) (events : List MeantEvent) where
  -- ---- a fault, or none

  abbrev pub FitsOrFault : List Step → Type 0
  FitsOrFault plan = Fits role limits plan events ⊎ ((step : ℕ) × (why : Why) × IsFault role limits plan events step why)

  -- Equal plans.
  unfoldable pub moved : {plan other : List Step} → plan ≡ other → FitsOrFault plan → FitsOrFault other
  moved is (inl fits) = inl (subst (λ (plan : List Step). Fits role limits plan events) is fits)
  moved is (inr fault) = inr (fault.0, fault.1, subst (λ (plan : List Step). IsFault role limits plan events fault.0 fault.1) is fault.2)

  -- A plan after steps that begin to fit.
  unfoldable pub walked_on : (plan : List Step) (range : InRange limits) (before : List Step) → BeginsToFit role limits before events → FitsOrFault (before ++ plan)
  walked_on [] range before begins =
      elim (no_event (events_left events before)) [
        | inl none ↦ moved (sym (append-nil before)) (inl (record { begins = begins; all = none }))
        | inr some ↦ moved (sym (append-nil before)) (inr (length before, EventsLeft, events_left_at role limits events before begins some))
      ]
  walked_on (step ∷ plan) range before begins =
      elim (first_or_none (HoldsAfter role limits before events step) (row_decided role limits (length (pending before)) (total (pending before)) (events_left events before) step)) [
        | inl found ↦ inr (length before, found.0, fault_at role limits events before plan step found.0 begins found.1)
        | inr none ↦ moved (push-append before step plan) (walked_on plan range (before ++ step ∷ []) (goes_on role limits events before step range begins none))
      ]

  unfoldable pub fits_or_fault : (plan : List Step) → InRange limits → FitsOrFault plan
  fits_or_fault plan range = walked_on plan range [] (begins_nil role limits events)

  -- ---- never both

  fits_or_faulty : (plan fitting rest : List Step) (why : Why) → plan ≡ fitting ++ rest → Fits role limits plan events → length plan ≤ length fitting → IsWhy role limits events fitting rest why → ⊥
  fits_or_faulty plan fitting [] why whole fits longest is =
      is.1 (ap (events_left events) (sym (whole ∙ append-nil fitting)) ∙ fits.all)
  fits_or_faulty plan fitting (step ∷ rest) why whole fits longest is = omega (arith, ap length whole, length-append fitting (step ∷ rest))

  pub not_both : (plan : List Step) (step : ℕ) (why : Why) → Fits role limits plan events → IsFault role limits plan events step why → ⊥
  not_both plan step why fits fault =
      fits_or_faulty plan fault.fitting fault.rest why fault.longest.whole fits
      (fault.longest.longest plan [] (sym (append-nil plan)) fits.begins) fault.is_why

  -- ---- at most one

  one_why : (fitting rest : List Step) (why other : Why) → IsWhy role limits events fitting rest why → IsWhy role limits events fitting rest other → why ≡ other
  one_why fitting [] why other is also = is.0 ∙ sym also.0
  one_why fitting (step ∷ rest) why other is also = one_first (HoldsAfter role limits fitting events step) why other is also

  pub one_fault : (plan : List Step) (step also : ℕ) (why other : Why) → IsFault role limits plan events step why → IsFault role limits plan events also other → (step ≡ also) × (why ≡ other)
  one_fault plan step also why other fault second =
      let same : length fault.fitting ≡ length second.fitting =
      omega (arith, fault.longest.longest second.fitting second.rest second.longest.whole second.longest.begins, second.longest.longest fault.fitting fault.rest fault.longest.whole fault.longest.begins) in
      let parts = same_front fault.fitting second.fitting fault.rest second.rest same (sym fault.longest.whole ∙ second.longest.whole) in
      let moved_why = subst (λ (front : List Step). IsWhy role limits events front second.rest other) (sym parts.0) second.is_why in
      let here = subst (λ (rest : List Step). IsWhy role limits events fault.fitting rest other) (sym parts.1) moved_why in
      (fault.at ∙ same ∙ sym second.at, one_why fault.fitting fault.rest why other fault.is_why here)
