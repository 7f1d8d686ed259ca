-- A plan step by step: one more step that no reason is against, and the fault at the first step that a reason is
-- against.
use Rattle.std.proofs.Common.{◌≡◌, ◌≢◌, ℕ, ◌+◌, ◌≤◌, ◌⊎◌, ◌∷◌, ◌++◌, [], List, Option, Some, None, length, drop, refl, sym, ap, ◌∙◌, subst, inl, inr, arith, append-nil}
use Rattle.std.specs.Option.{ForSome}
use Rattle.std.proofs.lemmas.List.{length-append}
use Rattle.wsn_wire.specs.declared.endpoint.Role.{Role}
use Rattle.wsn_wire.specs.declared.length_encoding.Form.{Form}
use Rattle.wsn_rules.specs.declared.step.Step.{Step}
use Rattle.wsn_rules.specs.declared.step.Step.TheVariants.{Piece, Last, Control}
use Rattle.wsn_rules.specs.declared.why.Why.{Why}
use Rattle.wsn_rules.specs.declared.why.Why.TheVariants.{EventsLeft}
use Rattle.wsn_rules.specs.Limits.{Limits, InRange}
use Rattle.wsn_rules.specs.Meaning.{MeantEvent}
use Rattle.wsn_rules.specs.Plan.{pending, total, events_left, next_text}
use Rattle.wsn_rules.specs.Fitting.{BeginsToFit, Fits}
use Rattle.wsn_rules.specs.Fault.{Holds, HoldsAfter, IsFirstWhy, IsFault}
use Rattle.wsn_rules.specs.WalkedPlan.{HasWalked}
use Rattle.wsn_rules.proofs.Prefixes.{two_fronts, push-append, head_same}
use Rattle.wsn_rules.proofs.PlanTheory.Context.{pending_push, left_push}
use Rattle.wsn_rules.proofs.PlanTheory.FitsFromTheFront.{begins_nil, begins_push, begins_prefix}
use Rattle.wsn_rules.proofs.PlanTheory.FitsFromTheFront as bridge
use Rattle.wsn_rules.proofs.PlanTheory.StepDecided.{pending_fit, none_pending, step_law, no_why}
use Rattle.wsn_rules.proofs.PlanTheory.PiecesInARow.{length_push, total_push}

module _ (role : Role) (limits : Limits) (events : List MeantEvent) where
  -- ---- a plan continues exactly with a step that no reason is against

  pub goes_on : (plan : List Step) (step : Step) → InRange limits → BeginsToFit role limits plan events → ((why : Why) → HoldsAfter role limits plan events step why → ⊥)
      → BeginsToFit role limits (plan ++ step ∷ []) events
  goes_on plan step range begins none =
      begins_push role limits events plan step begins (step_law role limits range (pending plan) (events_left events plan) step begins.unended none)

  pub stops : (plan : List Step) (step : Step) (why : Why) → BeginsToFit role limits (plan ++ step ∷ []) events → HoldsAfter role limits plan events step why → ⊥
  stops plan step why begins holds =
      no_why role limits (pending plan) (events_left events plan) step (bridge.step_law role limits events plan step begins) why holds

  -- ---- the fault

  -- No longer prefix begins to fit than one after which a step has a reason against it.
  longest_before : (plan rest : List Step) (step : Step) (why : Why) → HoldsAfter role limits plan events step why
      → (others later : List Step) → plan ++ step ∷ rest ≡ others ++ later → BeginsToFit role limits others events → length others ≤ length plan
  longest_before plan rest step why holds others later is begins = longest_of (two_fronts plan others (step ∷ rest) later is)
    where
      with_step : (more : List Step) → others ≡ plan ++ more → step ∷ rest ≡ more ++ later → length others ≤ length plan
      with_step [] longer following = omega (arith, ap length (longer ∙ append-nil plan))
      with_step (s ∷ more) longer following =
          let same = head_same step s rest (more ++ later) following in
          let whole : others ≡ (plan ++ step ∷ []) ++ more =
          longer ∙ ap (λ (first : Step). plan ++ first ∷ more) (sym same) ∙ sym (push-append plan step more) in
          absurd (stops plan step why (begins_prefix role limits events (plan ++ step ∷ []) more (subst (λ (steps : List Step). BeginsToFit role limits steps events) whole begins)) holds)

      longest_of : (((more : List Step) × (others ≡ plan ++ more) × (step ∷ rest ≡ more ++ later)) ⊎ ((more : List Step) × (plan ≡ others ++ more) × (later ≡ more ++ step ∷ rest))) → length others ≤ length plan
      longest_of (inl p) = with_step p.0 p.1 p.2
      longest_of (inr p) = omega (arith, ap length p.1, length-append others p.0)

  pub fault_at : (plan rest : List Step) (step : Step) (why : Why) → BeginsToFit role limits plan events → IsFirstWhy (HoldsAfter role limits plan events step) why
      → IsFault role limits (plan ++ step ∷ rest) events (length plan) why
  fault_at plan rest step why begins is = record {
    fitting = plan;
    rest = step ∷ rest;
    longest = record { whole = refl; begins = begins; longest = longest_before plan rest step why is.holds };
    at = refl;
    is_why = is;
  }

  pub events_left_at : (plan : List Step) → BeginsToFit role limits plan events → events_left events plan ≢ [] → IsFault role limits plan events (length plan) EventsLeft
  events_left_at plan begins some = record {
    fitting = plan;
    rest = [];
    longest = record {
      whole = sym (append-nil plan);
      begins = begins;
      longest = λ others later is others_begin. omega (arith, ap length is, length-append others later);
    };
    at = refl;
    is_why = (refl, some);
  }

  -- ---- the context in numbers

  pub walked_start : HasWalked role limits events [] 0 0 events
  walked_start = record { begins = begins_nil role limits events; counted = refl; summed = refl; remaining = refl }

  -- The rows in numbers are the rows of the definitions.
  rows_are : (plan : List Step) (count held : ℕ) (left : List MeantEvent) (step : Step) → HasWalked role limits events plan count held left
      → Holds role limits count held left step ≡ HoldsAfter role limits plan events step
  rows_are plan count held left step walked =
      ap (λ (n : ℕ). Holds role limits n held left step) walked.counted
      ∙ ap (λ (n : ℕ). Holds role limits (length (pending plan)) n left step) walked.summed
      ∙ ap (λ (es : List MeantEvent). Holds role limits (length (pending plan)) (total (pending plan)) es step) walked.remaining

  module _ (plan : List Step) (count held : ℕ) (left : List MeantEvent) (range : InRange limits) (walked : HasWalked role limits events plan count held left) where
    walked_begins : (step : Step) → ((why : Why) → Holds role limits count held left step why → ⊥) → BeginsToFit role limits (plan ++ step ∷ []) events
    walked_begins step none =
        goes_on plan step range walked.begins (subst (λ (HoldsHere : Why → Type 0). (why : Why) → HoldsHere why → ⊥) (rows_are plan count held left step walked) none)

    pub walked_piece : (len : ℕ) (key : Option (List ℕ)) (form : Form) → ((why : Why) → Holds role limits count held left (Piece len key form) why → ⊥)
        → HasWalked role limits events (plan ++ Piece len key form ∷ []) (count + 1) (held + len) left
    walked_piece len key form none =
        let pieces = pending_push plan (Piece len key form) in
        record {
          begins = walked_begins (Piece len key form) none;
          counted = omega (arith, ap length pieces, length_push (pending plan) (Piece len key form), walked.counted);
          summed = omega (arith, ap total pieces, total_push (pending plan) (Piece len key form), walked.summed);
          remaining = walked.remaining ∙ sym (left_push plan (Piece len key form) events);
        }

    pub walked_last : (key : Option (List ℕ)) (form : Form) → ((why : Why) → Holds role limits count held left (Last key form) why → ⊥)
        → HasWalked role limits events (plan ++ Last key form ∷ []) 0 0 (drop 1 left)
    walked_last key form none =
        let pieces = pending_push plan (Last key form) in
        record {
          begins = walked_begins (Last key form) none;
          counted = sym (ap length pieces);
          summed = sym (ap total pieces);
          remaining = ap (drop 1) walked.remaining ∙ sym (left_push plan (Last key form) events);
        }

    pub walked_control : (key : Option (List ℕ)) → ((why : Why) → Holds role limits count held left (Control key) why → ⊥)
        → HasWalked role limits events (plan ++ Control key ∷ []) count held (drop 1 left)
    walked_control key none =
        let pieces = pending_push plan (Control key) in
        record {
          begins = walked_begins (Control key) none;
          counted = walked.counted ∙ sym (ap length pieces);
          summed = walked.summed ∙ sym (ap total pieces);
          remaining = ap (drop 1) walked.remaining ∙ sym (left_push plan (Control key) events);
        }

  module _ (plan : List Step) (count held : ℕ) (left : List MeantEvent) (walked : HasWalked role limits events plan count held left) where
    pub walked_fault : (rest : List Step) (step : Step) (why : Why) → IsFirstWhy (Holds role limits count held left step) why → IsFault role limits (plan ++ step ∷ rest) events (length plan) why
    walked_fault rest step why is =
        fault_at plan rest step why walked.begins (subst (λ (HoldsHere : Why → Type 0). IsFirstWhy HoldsHere why) (rows_are plan count held left step walked) is)

    pub walked_events_left : left ≢ [] → IsFault role limits plan events (length plan) EventsLeft
    walked_events_left some = events_left_at plan walked.begins (λ none. some (walked.remaining ∙ none))

    pub walked_fits : left ≡ [] → Fits role limits plan events
    walked_fits none = record { begins = walked.begins; all = sym walked.remaining ∙ none }

    -- ---- the pending Pieces fit the next message

    pub walked_pending : InRange limits → (text : List ℕ) → next_text left ≡ Some text → (held ≤ length text) × ForSome limits.frames (λ most. count + 1 ≤ most)
    walked_pending range text is =
        let fit = pending_fit limits (pending plan) (events_left events plan) text range walked.begins.unended (ap next_text (sym walked.remaining) ∙ is) in
        (omega (arith, fit.size, walked.summed), λ most limit. omega (arith, fit.count most limit, walked.counted))

    pub walked_nothing : next_text left ≡ None → (count ≡ 0) × (held ≡ 0)
    walked_nothing none =
        let nothing = none_pending limits (pending plan) (events_left events plan) walked.begins.unended (ap next_text (sym walked.remaining) ∙ none) in
        (walked.counted ∙ ap length nothing, walked.summed ∙ ap total nothing)
