-- A plan that is followed over events: what its next step is for, and the state after it.
use Rattle.std.proofs.Common.{◌≡◌, ℕ, ◌+◌, ◌<◌, ◌≤◌, ◌^◌, zero, suc, List, [], ◌∷◌, ◌++◌, length, take, drop, get_or, sym, ap, ◌∙◌, subst, drop-drop, arith}
use Rattle.std.proofs.lemmas.List.{drop_more, take_more, take-append-drop}
use Rattle.std.proofs.Math.Seq.{take-length, length-take-le}
use Rattle.wsn_wire.specs.declared.endpoint.Role.{Role}
use Rattle.wsn_rules.specs.declared.step.Step.{Step}
use Rattle.wsn_rules.specs.declared.step.Step.TheVariants.{Piece, Last, Control}
use Rattle.wsn_rules.specs.declared.why.Why.{Why}
use Rattle.wsn_rules.specs.Limits.{Limits, InRange}
use Rattle.wsn_rules.specs.Meaning.{MeantEvent}
use Rattle.wsn_rules.specs.LawfulEvents.{AreLawful}
use Rattle.wsn_rules.specs.Plan.{pending, total, next_text}
use Rattle.wsn_rules.specs.Fitting.{BeginsToFit}
use Rattle.wsn_rules.specs.Fault.{Holds, IsFirstWhy, IsFault}
use Rattle.wsn_rules.specs.WalkedPlan.{HasWalked}
use Rattle.wsn_rules.proofs.PlanTheory.Context.{pending_push, left_push}
use Rattle.wsn_rules.proofs.PlanTheory.FitsFromTheFront.{step_law}
use Rattle.wsn_rules.proofs.PlanTheory.PiecesInARow.{length_push, total_push}
use Rattle.wsn_rules.proofs.PlanTheory.RecutSteps.{next_is, next_is_lawful}
use Rattle.wsn_rules.proofs.PlanTheory.Walked.{walked_piece, walked_last, walked_control, walked_fault}
use Rattle.wsn_plan.specs.declared.walking.Walk.{Walk}
use Rattle.wsn_plan.specs.Walking.{IsApplicable, HasAdvancedBy, pieces_after, held_after, event_after}

pub lawful_from : (most n : ℕ) (es : List MeantEvent) → AreLawful most es → AreLawful most (drop n es)
lawful_from most zero es lawful = lawful
lawful_from most (suc n) [] lawful = tt
lawful_from most (suc n) (e ∷ es) lawful = lawful_from most n es lawful.2

module _ (role : Role) (limits : Limits) (es : List MeantEvent) where
  -- the walk has followed this plan
  abbrev pub Follows : List Step → Walk → Type 0
  Follows plan walk = HasWalked role limits es plan walk.pieces walk.held (drop walk.event es)

  -- a step against which there is no reason
  pub begins_on : (plan : List Step) (walk : Walk) (step : Step) → InRange limits → Follows plan walk
      → ((why : Why) → Holds role limits walk.pieces walk.held (drop walk.event es) step why → ⊥) → BeginsToFit role limits (plan ++ step ∷ []) es
  begins_on plan walk (Piece len key form) range walked none = (walked_piece role limits es plan walk.pieces walk.held (drop walk.event es) range walked len key form none).begins
  begins_on plan walk (Last key form) range walked none = (walked_last role limits es plan walk.pieces walk.held (drop walk.event es) range walked key form none).begins
  begins_on plan walk (Control key) range walked none = (walked_control role limits es plan walk.pieces walk.held (drop walk.event es) range walked key none).begins

  pub consumes : (plan : List Step) (walk : Walk) (step : Step) → Follows plan walk → BeginsToFit role limits (plan ++ step ∷ []) es → IsApplicable walk es step
  consumes plan walk (Piece len key form) walked begins =
      let fit = (step_law role limits es plan (Piece len key form) begins).1.0 in
      (fit.0, ap next_text walked.remaining ∙ fit.1, omega (arith, fit.2.size, walked.summed, total_push (pending plan) (Piece len key form)))
  consumes plan walk (Last key form) walked begins =
      let law = (step_law role limits es plan (Last key form) begins).1 in
      (law.0, law.1, law.2, walked.remaining ∙ law.3)
  consumes plan walk (Control key) walked begins =
      let law = (step_law role limits es plan (Control key) begins).1 in
      (law.0, law.1, law.2, walked.remaining ∙ law.3)

  -- the bytes of the Pieces fit 64 bits
  pub held_is_small : (walk : Walk) (step : Step) → InRange limits → AreLawful limits.message es → walk.held < 2 ^ 64 → IsApplicable walk es step → held_after walk.held step < 2 ^ 64
  held_is_small walk step range lawful small may = grind (arith, next_is_lawful, lawful_from, next_is)

  pub walked_on : (plan : List Step) (walk next : Walk) (step : Step) → Follows plan walk → BeginsToFit role limits (plan ++ step ∷ []) es
      → next.pieces ≡ pieces_after walk.pieces step → next.held ≡ held_after walk.held step → next.event ≡ event_after walk.event step → Follows (plan ++ step ∷ []) next
  walked_on plan walk next (Piece len key form) walked begins pieces held event =
      let pushed = pending_push plan (Piece len key form) in
      record {
        begins = begins;
        counted = omega (arith, pieces, ap length pushed, length_push (pending plan) (Piece len key form), walked.counted);
        summed = omega (arith, held, ap total pushed, total_push (pending plan) (Piece len key form), walked.summed);
        remaining = ap (λ (n : ℕ). drop n es) event ∙ walked.remaining ∙ sym (left_push plan (Piece len key form) es);
      }
  walked_on plan walk next (Last key form) walked begins pieces held event =
      let pushed = pending_push plan (Last key form) in
      record {
        begins = begins;
        counted = pieces ∙ sym (ap length pushed);
        summed = held ∙ sym (ap total pushed);
        remaining = ap (λ (n : ℕ). drop n es) event ∙ sym (drop-drop 1 walk.event es) ∙ ap (drop 1) walked.remaining ∙ sym (left_push plan (Last key form) es);
      }
  walked_on plan walk next (Control key) walked begins pieces held event =
      let pushed = pending_push plan (Control key) in
      record {
        begins = begins;
        counted = pieces ∙ walked.counted ∙ sym (ap length pushed);
        summed = held ∙ walked.summed ∙ sym (ap total pushed);
        remaining = ap (λ (n : ℕ). drop n es) event ∙ sym (drop-drop 1 walk.event es) ∙ ap (drop 1) walked.remaining ∙ sym (left_push plan (Control key) es);
      }

  -- ---- a step of a plan

  parts_at : (plan : List Step) (i : ℕ) (d : Step) → i < length plan → take i plan ++ get_or plan i d ∷ drop (i + 1) plan ≡ plan
  parts_at plan i d less = sym (ap (λ (rest : List Step). take i plan ++ rest) (drop_more plan i d less)) ∙ take-append-drop i plan

  pub fault_here : (plan : List Step) (i : ℕ) (d : Step) (walk : Walk) (why : Why) → i < length plan → Follows (take i plan) walk
      → IsFirstWhy (Holds role limits walk.pieces walk.held (drop walk.event es) (get_or plan i d)) why → IsFault role limits plan es i why
  fault_here plan i d walk why less walked first =
      let size : length (take i plan) ≡ i = length-take-le i plan (omega arith) in
      let fault = walked_fault role limits es (take i plan) walk.pieces walk.held (drop walk.event es) walked (drop (i + 1) plan) (get_or plan i d) why first in
      subst (λ (n : ℕ). IsFault role limits plan es n why) size
      (subst (λ (steps : List Step). IsFault role limits steps es (length (take i plan)) why) (parts_at plan i d less) fault)

  pub follows_on : (plan : List Step) (i : ℕ) (d : Step) (walk next : Walk) → i < length plan → Follows (take i plan) walk → BeginsToFit role limits (take i plan ++ get_or plan i d ∷ []) es
      → HasAdvancedBy walk next (get_or plan i d) → Follows (take (i + 1) plan) next
  follows_on plan i d walk next less walked begins taken = grind (arith, take_more, walked_on)

  pub at_the_end : (plan : List Step) (i : ℕ) (walk : Walk) → i ≡ length plan → Follows (take i plan) walk → Follows plan walk
  at_the_end plan i walk is walked = grind (arith, take-length)

pub few_more : (pieces : ℕ) (step : Step) → pieces_after pieces step ≤ pieces + 1
few_more pieces step = grind arith
