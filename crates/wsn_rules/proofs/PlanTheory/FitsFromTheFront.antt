-- Whether a plan begins to fit is decided step by step.
use Rattle.std.proofs.Common.{◌≡◌, ◌≢◌, ℕ, ◌-◌, ◌↔◌, true, List, [], ◌∷◌, ◌++◌, Some, length, drop, refl, sym, ap, ◌∙◌, subst, inl, inr, append-nil, append_assoc}
use Rattle.std.proofs.lemmas.List.Elements.{filter-append}
use Rattle.wsn_wire.specs.declared.endpoint.Role.{Role}
use Rattle.wsn_wire.specs.declared.length_encoding.Form.{Form}
use Rattle.wsn_wire.specs.declared.opcode.Kind.{Kind}
use Rattle.wsn_wire.specs.declared.opcode.Op.{Op}
use Rattle.wsn_rules.specs.declared.step.Step.{Step}
use Rattle.wsn_rules.specs.declared.step.Step.TheVariants.{Piece, Last, Control}
use Rattle.wsn_rules.specs.Limits.{Limits}
use Rattle.wsn_rules.specs.Meaning.{MeantEvent}
use Rattle.wsn_rules.specs.Meaning as meant
use Rattle.wsn_rules.specs.Plan.{piece_length, is_end, is_last, form_of, pending, total, events_left, next_text}
use Rattle.wsn_rules.specs.Plan as plans
use Rattle.wsn_rules.specs.Fitting.{HasKeyOf, IsEndOf, AreEndsOfFirst, PiecesFit, IsAllowedForm, BeginsToFit, Fits}
use Rattle.wsn_rules.proofs.Prefixes.{nil-cons, nil-push, head_same, push-append, split_push}
use Rattle.wsn_rules.proofs.PlanTheory.FromTheFront.{pieces_after, left_after, left_following, MayStand, StepLaw, BeginsToFitFrom}
use Rattle.wsn_rules.proofs.PlanTheory.PiecesInARow.{pieces_fit_front}
use Rattle.wsn_rules.proofs.PlanTheory.Context.{pending_push, left_push, events_left_are}

-- ---- the ends are for the first events: one more end

pub stand_front : (steps : List Step) (step : Step) (events : List MeantEvent) → AreEndsOfFirst (steps ++ step ∷ []) events → AreEndsOfFirst steps events
stand_front [] step events stand = tt
stand_front (s ∷ steps) step [] stand = stand
stand_front (s ∷ steps) step (e ∷ events) stand = (stand.0, stand_front steps step events stand.1)

-- The event that a step is for, and the events after it.
abbrev pub StandsForNext : Step → List MeantEvent → Type 0
StandsForNext step left = (event : MeantEvent) × (later : List MeantEvent) × (left ≡ event ∷ later) × IsEndOf step event

pub stand_last : (steps : List Step) (step : Step) (events : List MeantEvent) → AreEndsOfFirst (steps ++ step ∷ []) events → StandsForNext step (drop (length steps) events)
stand_last [] step [] stand = absurd stand
stand_last [] step (e ∷ events) stand = (e, events, refl, stand.0)
stand_last (s ∷ steps) step [] stand = absurd stand
stand_last (s ∷ steps) step (e ∷ events) stand = stand_last steps step events stand.1

pub stand_push : (steps : List Step) (step : Step) (events : List MeantEvent) → AreEndsOfFirst steps events → StandsForNext step (drop (length steps) events) → AreEndsOfFirst (steps ++ step ∷ []) events
stand_push [] step [] stand next = absurd (nil-cons next.0 next.1 next.2)
stand_push [] step (e ∷ events) stand next = (subst (IsEndOf step) (sym (head_same e next.0 events next.1 next.2)) next.3, tt)
stand_push (s ∷ steps) step [] stand next = stand
stand_push (s ∷ steps) step (e ∷ events) stand next = (stand.0, stand_push steps step events stand.1 next)

ends_push : (plan : List Step) (step : Step) → is_end step ≡ true → plans.ends (plan ++ step ∷ []) ≡ plans.ends plan ++ step ∷ []
ends_push plan (Piece len key form) is = cc
ends_push plan (Last key form) is = filter-append is_end plan (Last key form ∷ [])
ends_push plan (Control key) is = filter-append is_end plan (Control key ∷ [])

ends_piece : (plan : List Step) (len : ℕ) (key : _) (form : Form) → plans.ends (plan ++ Piece len key form ∷ []) ≡ plans.ends plan
ends_piece plan len key form = filter-append is_end plan (Piece len key form ∷ []) ∙ append-nil (plans.ends plan)

-- ---- one more step: what is allowed, and what follows

-- The Pieces fit the next message.
abbrev pub FitNext : Limits → List Step → List MeantEvent → Type 0
FitNext limits pieces left = (text : List ℕ) × (next_text left ≡ Some text) × PiecesFit limits pieces text

-- The event that a Last or a Control is for.
abbrev BeginsWith : Step → List MeantEvent → Type 0
BeginsWith (Piece len key form) left = ⊥
BeginsWith (Last key form) left = (kind : Kind) × (text : List ℕ) × (later : List MeantEvent) × (left ≡ meant.Message kind text ∷ later)
BeginsWith (Control key) left = (op : Op) × (body : List ℕ) × (later : List MeantEvent) × (left ≡ meant.Control op body ∷ later)

begins_with : (step : Step) (left : List MeantEvent) (event : MeantEvent) (later : List MeantEvent) → left ≡ event ∷ later → IsEndOf step event → BeginsWith step left
begins_with (Piece len key form) left event later is has_scanned = has_scanned
begins_with (Last key form) left (meant.Message kind text) later is has_scanned = (kind, text, later, is)
begins_with (Last key form) left (meant.Control op body) later is has_scanned = absurd has_scanned
begins_with (Control key) left (meant.Message kind text) later is has_scanned = absurd has_scanned
begins_with (Control key) left (meant.Control op body) later is has_scanned = (op, body, later, is)

next_end : (plan : List Step) (step : Step) (events : List MeantEvent) → is_end step ≡ true → AreEndsOfFirst (plans.ends (plan ++ step ∷ [])) events → BeginsWith step (events_left events plan)
next_end plan step events is stand =
    let next = stand_last (plans.ends plan) step events (subst (λ (steps : List Step). AreEndsOfFirst steps events) (ends_push plan step is) stand) in
    begins_with step (events_left events plan) next.0 next.1 next.2 next.3

module _ (role : Role) (limits : Limits) (events : List MeantEvent) where
  -- A Piece makes its message unfinished.
  unended_piece : (plan : List Step) (len : ℕ) (key : _) (form : Form) → BeginsToFit role limits (plan ++ Piece len key form ∷ []) events
      → FitNext limits (pending plan ++ Piece len key form ∷ []) (events_left events plan)
  unended_piece plan len key form begins =
      let fit = begins.unended (λ none. nil-push (pending plan) (Piece len key form) [] (sym none ∙ pending_push plan (Piece len key form))) in (
        fit.0,
        ap next_text (sym (left_push plan (Piece len key form) events)) ∙ fit.1,
        subst (λ (pieces : List Step). PiecesFit limits pieces fit.0) (pending_push plan (Piece len key form)) fit.2,
      )

  may_stand : (plan : List Step) (step : Step) → BeginsToFit role limits (plan ++ step ∷ []) events → MayStand limits (pending plan) (events_left events plan) step
  may_stand plan (Piece len key form) begins = (unended_piece plan len key form begins, begins.pieces plan [] len key form refl)
  may_stand plan (Last key form) begins =
      let next = next_end plan (Last key form) events refl begins.ends in
      let fit = begins.messages plan [] (Last key form) next.0 next.1 next.2 refl refl next.3 in
      (next.0, next.1, next.2, next.3, fit.0, fit.1)
  may_stand plan (Control key) begins = next_end plan (Control key) events refl begins.ends

  -- The Pieces before the step fit the next message.
  unended_front : (plan : List Step) (step : Step) → BeginsToFit role limits (plan ++ step ∷ []) events → pending plan ≢ [] → FitNext limits (pending plan) (events_left events plan)
  unended_front plan (Piece len key form) begins some =
      let fit = unended_piece plan len key form begins in
      (fit.0, fit.1, pieces_fit_front limits (pending plan) (Piece len key form ∷ []) fit.0 fit.2)
  unended_front plan (Last key form) begins some =
      let law = may_stand plan (Last key form) begins in
      (law.1, ap next_text law.3, law.4)
  unended_front plan (Control key) begins some =
      let law = may_stand plan (Control key) begins in
      let fit = begins.unended (λ none. some (sym (pending_push plan (Control key)) ∙ none)) in
      let later_is = left_push plan (Control key) events ∙ ap (drop 1) law.3 in (
        fit.0,
        ap next_text law.3 ∙ sym (ap next_text later_is) ∙ fit.1,
        subst (λ (pieces : List Step). PiecesFit limits pieces fit.0) (pending_push plan (Control key)) fit.2,
      )

  ends_front : (plan : List Step) (step : Step) → AreEndsOfFirst (plans.ends (plan ++ step ∷ [])) events → AreEndsOfFirst (plans.ends plan) events
  ends_front plan (Piece len key form) stand = subst (λ (steps : List Step). AreEndsOfFirst steps events) (ends_piece plan len key form) stand
  ends_front plan (Last key form) stand =
      stand_front (plans.ends plan) (Last key form) events (subst (λ (steps : List Step). AreEndsOfFirst steps events) (ends_push plan (Last key form) refl) stand)
  ends_front plan (Control key) stand =
      stand_front (plans.ends plan) (Control key) events (subst (λ (steps : List Step). AreEndsOfFirst steps events) (ends_push plan (Control key) refl) stand)

  split_longer : (plan : List Step) (last : Step) (before : List Step) (step : Step) (after : List Step) → plan ≡ before ++ step ∷ after → plan ++ last ∷ [] ≡ before ++ step ∷ (after ++ last ∷ [])
  split_longer plan last before step after is = ap (λ (steps : List Step). steps ++ last ∷ []) is ∙ append_assoc before (step ∷ after) (last ∷ [])

  -- ---- one step less, and one step more

  pub begins_front : (plan : List Step) (step : Step) → BeginsToFit role limits (plan ++ step ∷ []) events → BeginsToFit role limits plan events
  begins_front plan last begins = record {
    keys = λ before after step is. begins.keys before (after ++ last ∷ []) step (split_longer plan last before step after is);
    ends = ends_front plan last begins.ends;
    messages = λ before after step kind text later is. begins.messages before (after ++ last ∷ []) step kind text later (split_longer plan last before step after is);
    unended = unended_front plan last begins;
    pieces = λ before after len key form is. begins.pieces before (after ++ last ∷ []) len key form (split_longer plan last before (Piece len key form) after is);
  }

  pub step_law : (plan : List Step) (step : Step) → BeginsToFit role limits (plan ++ step ∷ []) events → StepLaw role limits (pending plan) (events_left events plan) step
  step_law plan step begins = (begins.keys plan [] step refl, may_stand plan step begins)

  ends_more : (plan : List Step) (step : Step) → AreEndsOfFirst (plans.ends plan) events → MayStand limits (pending plan) (events_left events plan) step → AreEndsOfFirst (plans.ends (plan ++ step ∷ [])) events
  ends_more plan (Piece len key form) stand law = subst (λ (steps : List Step). AreEndsOfFirst steps events) (sym (ends_piece plan len key form)) stand
  ends_more plan (Last key form) stand law =
      subst (λ (steps : List Step). AreEndsOfFirst steps events) (sym (ends_push plan (Last key form) refl))
      (stand_push (plans.ends plan) (Last key form) events stand (meant.Message law.0 law.1, law.2, law.3, tt))
  ends_more plan (Control key) stand law =
      subst (λ (steps : List Step). AreEndsOfFirst steps events) (sym (ends_push plan (Control key) refl))
      (stand_push (plans.ends plan) (Control key) events stand (meant.Control law.0 law.1, law.2, law.3, tt))

  unended_more : (plan : List Step) (step : Step) → BeginsToFit role limits plan events → MayStand limits (pending plan) (events_left events plan) step → pending (plan ++ step ∷ []) ≢ []
      → FitNext limits (pending (plan ++ step ∷ [])) (events_left events (plan ++ step ∷ []))
  unended_more plan (Piece len key form) begins law some =
      let fit = law.0 in (
        fit.0,
        ap next_text (left_push plan (Piece len key form) events) ∙ fit.1,
        subst (λ (pieces : List Step). PiecesFit limits pieces fit.0) (sym (pending_push plan (Piece len key form))) fit.2,
      )
  unended_more plan (Last key form) begins law some = absurd (some (pending_push plan (Last key form)))
  unended_more plan (Control key) begins law some =
      let fit = begins.unended (λ none. some (pending_push plan (Control key) ∙ none)) in
      let later_is = left_push plan (Control key) events ∙ ap (drop 1) law.3 in (
        fit.0,
        ap next_text later_is ∙ sym (ap next_text law.3) ∙ fit.1,
        subst (λ (pieces : List Step). PiecesFit limits pieces fit.0) (sym (pending_push plan (Control key))) fit.2,
      )

  -- The rule that a Last sets for the message that it ends.
  last_law : (pieces : List Step) (left : List MeantEvent) (step : Step) (kind : Kind) (text : List ℕ) (later : List MeantEvent) → MayStand limits pieces left step → is_last step ≡ true
      → left ≡ meant.Message kind text ∷ later → PiecesFit limits pieces text × IsAllowedForm limits.lengths (form_of step) (length text - total pieces)
  last_law pieces left (Piece len key form) kind text later law is left_is = cc
  last_law pieces left (Last key form) kind text later law is left_is =
      let same : law.1 ≡ text = let both = sym law.3 ∙ left_is in (cc) in
      subst (λ (bytes : List ℕ). PiecesFit limits pieces bytes × IsAllowedForm limits.lengths form (length bytes - total pieces)) same (law.4, law.5)
  last_law pieces left (Control key) kind text later law is left_is = cc

  pub begins_push : (plan : List Step) (step : Step) → BeginsToFit role limits plan events → StepLaw role limits (pending plan) (events_left events plan) step → BeginsToFit role limits (plan ++ step ∷ []) events
  begins_push plan last begins law = record {
    keys = λ before after step is. elim (split_push plan last before step after is) [
      | inl p ↦ subst (HasKeyOf role) (sym p.1) law.0
      | inr p ↦ begins.keys before p.0 step p.1
    ];
    ends = ends_more plan last begins.ends law.1;
    messages = λ before after step kind text later is ends left_is. elim (split_push plan last before step after is) [
      | inl p ↦
          let here = subst (λ (front : List Step). MayStand limits (pending front) (events_left events front) last) (sym p.0) law.1 in
          last_law (pending before) (events_left events before) step kind text later (subst (MayStand limits (pending before) (events_left events before)) (sym p.1) here) ends left_is
      | inr p ↦ begins.messages before p.0 step kind text later p.1 ends left_is
    ];
    unended = unended_more plan last begins law.1;
    pieces = λ before after len key form is. elim (split_push plan last before (Piece len key form) after is) [
      | inl p ↦ let here = subst (MayStand limits (pending plan) (events_left events plan)) (sym p.1) law.1 in here.1
      | inr p ↦ begins.pieces before p.0 len key form p.1
    ];
  }

  -- ---- a whole plan, after steps that begin to fit

  pub begins_nil : BeginsToFit role limits [] events
  begins_nil = record {
    keys = λ before after step is. absurd (nil-push before step after is);
    ends = tt;
    messages = λ before after step kind text later is. absurd (nil-push before step after is);
    unended = λ some. absurd (some refl);
    pieces = λ before after len key form is. absurd (nil-push before (Piece len key form) after is);
  }

  pub begins_prefix : (before plan : List Step) → BeginsToFit role limits (before ++ plan) events → BeginsToFit role limits before events
  begins_prefix before [] begins = subst (λ (steps : List Step). BeginsToFit role limits steps events) (append-nil before) begins
  begins_prefix before (step ∷ plan) begins =
      begins_front before step (begins_prefix (before ++ step ∷ []) plan (subst (λ (steps : List Step). BeginsToFit role limits steps events) (sym (push-append before step plan)) begins))

  -- The rule for the steps after a step, by the context after the step and by the definitions.
  context_moved : (before : List Step) (step : Step) (plan : List Step) →
      BeginsToFitFrom role limits (pending (before ++ step ∷ [])) (events_left events (before ++ step ∷ [])) plan
      ≡ BeginsToFitFrom role limits (pieces_after (pending before) step) (left_after (events_left events before) step) plan
  context_moved before step plan =
      ap (λ (pieces : List Step). BeginsToFitFrom role limits pieces (events_left events (before ++ step ∷ [])) plan) (pending_push before step)
      ∙ ap (λ (left : List MeantEvent). BeginsToFitFrom role limits (pieces_after (pending before) step) left plan) (left_push before step events)

  pub begins_after : (before plan : List Step) → BeginsToFit role limits before events → BeginsToFitFrom role limits (pending before) (events_left events before) plan → BeginsToFit role limits (before ++ plan) events
  begins_after before [] begins following = subst (λ (steps : List Step). BeginsToFit role limits steps events) (sym (append-nil before)) begins
  begins_after before (step ∷ plan) begins following =
      subst (λ (steps : List Step). BeginsToFit role limits steps events) (push-append before step plan)
      (begins_after (before ++ step ∷ []) plan (begins_push before step begins following.0) (subst (λ (A : Type 0). A) (sym (context_moved before step plan)) following.1))

  pub begins_from : (before plan : List Step) → BeginsToFit role limits (before ++ plan) events → BeginsToFitFrom role limits (pending before) (events_left events before) plan
  begins_from before [] begins = tt
  begins_from before (step ∷ plan) begins =
      let moved = subst (λ (steps : List Step). BeginsToFit role limits steps events) (sym (push-append before step plan)) begins in (
        step_law before step (begins_prefix (before ++ step ∷ []) plan moved),
        subst (λ (A : Type 0). A) (context_moved before step plan) (begins_from (before ++ step ∷ []) plan moved),
      )

  -- ---- from the start

  pub fits_iff : (plan : List Step) → Fits role limits plan events ↔ (BeginsToFitFrom role limits [] events plan × (left_following events plan ≡ []))
  fits_iff plan = (
    λ fits. (begins_from [] plan fits.begins, sym (events_left_are plan events) ∙ fits.all),
    λ both. record { begins = begins_after [] plan begins_nil both.0; all = events_left_are plan events ∙ both.1 },
  )
