-- The frames of a recut are lawful, leave no message unfinished and mean the events; so their bytes are accepted.
use Rattle.std.proofs.Common.{◌≡◌, ℕ, cond, List, [], ◌∷◌, ◌++◌, length, refl, sym, ap, ◌∙◌, subst, append-nil, append_assoc}
use Rattle.wsn_wire.specs.declared.endpoint.Role.{Role}
use Rattle.wsn_wire.specs.Frame.{Frame}
use Rattle.wsn_rules.specs.declared.step.Step.{Step}
use Rattle.wsn_rules.specs.declared.step.Step.TheVariants.{Piece, Last, Control}
use Rattle.wsn_rules.specs.Limits.{Limits}
use Rattle.wsn_rules.specs.Group.{unfinished}
use Rattle.wsn_rules.specs.Lawful.{IsLawful, AreLawfulAfter}
use Rattle.wsn_rules.specs.Accepted.{IsAccepted}
use Rattle.wsn_rules.specs.Meaning.{MeantEvent, event_at, events_after, meaning}
use Rattle.wsn_rules.specs.LawfulEvents.{AreLawful}
use Rattle.wsn_rules.specs.Plan.{IsPlan, pending, next_text}
use Rattle.wsn_rules.specs.Fitting.{Fits}
use Rattle.wsn_rules.specs.Recut.{next_message, recut, recut_bytes}
use Rattle.wsn_rules.proofs.Prefixes.{push-append}
use Rattle.wsn_rules.proofs.LawfulLists.{lawful_nil, no_close_nil, lawful_from_front, finished_is_accepted}
use Rattle.wsn_rules.proofs.PlanTheory.FromTheFront.{pieces_after, left_after, pieces_following, left_following, MayStand, BeginsToFitFrom, frame_from, recut_from}
use Rattle.wsn_rules.proofs.PlanTheory.Context.{pending_is, events_left_are, recut_is}
use Rattle.wsn_rules.proofs.PlanTheory.FitsFromTheFront.{begins_from}
use Rattle.wsn_rules.proofs.PlanTheory.MessageFrames.{IsOfPieces, of_no_pieces}
use Rattle.wsn_rules.proofs.PlanTheory.RecutSteps.{step_goes_on}
use Rattle.std.proofs.lemmas.List.{nil_from_length}

-- ---- with no event left, no step is allowed

no_step : (limits : Limits) (pieces : List Step) (left : List MeantEvent) (step : Step) → left ≡ [] → MayStand limits pieces left step → ⊥
no_step limits pieces left (Piece len key form) none law = let is = law.0.1 in let nothing = ap next_text none in cc
no_step limits pieces left (Last key form) none law = let is = law.3 in cc
no_step limits pieces left (Control key) none law = let is = law.3 in cc

pub nothing_after_the_end : (role : Role) (limits : Limits) (pieces : List Step) (left : List MeantEvent) (plan : List Step) → left ≡ [] → BeginsToFitFrom role limits pieces left plan → plan ≡ []
nothing_after_the_end role limits pieces left [] none begins = refl
nothing_after_the_end role limits pieces left (step ∷ plan) none begins = absurd (no_step limits pieces left step none begins.0.1)

pub lawful_after : (most : ℕ) (left : List MeantEvent) (step : Step) → AreLawful most left → AreLawful most (left_after left step)
lawful_after most left (Piece len key form) lawful = lawful
lawful_after most [] (Last key form) lawful = tt
lawful_after most (e ∷ left) (Last key form) lawful = lawful.2
lawful_after most [] (Control key) lawful = tt
lawful_after most (e ∷ left) (Control key) lawful = lawful.2

-- ---- the frames of a plan, after the frames before

-- The frames fs continue the frames before, with the events `left`; after them `pieces` are pending, and the events
-- `later` are left.
pub record AreFrames (role : Role) (limits : Limits) (before : List Frame) (left : List MeantEvent) (fs : List Frame) (pieces : List Step) (later : List MeantEvent) : Type 0 where
  pub lawful : AreLawfulAfter role limits before fs
  pub following : IsOfPieces pieces (next_message later) (unfinished (before ++ fs))
  pub events : events_after before fs ++ later ≡ left

pub recut_after : (role : Role) (limits : Limits) (before : List Frame) (pieces : List Step) (left : List MeantEvent) (plan : List Step) → IsPlan plan → AreLawful limits.message left
    → IsOfPieces pieces (next_message left) (unfinished before) → BeginsToFitFrom role limits pieces left plan
    → AreFrames role limits before left (recut_from pieces left plan) (pieces_following pieces plan) (left_following left plan)
recut_after role limits before pieces left [] is_plan lawful following begins = record {
  lawful = tt;
  following = subst (λ (fs : List Frame). IsOfPieces pieces (next_message left) (unfinished fs)) (sym (append-nil before)) following;
  events = refl;
}
recut_after role limits before pieces left (step ∷ plan) is_plan lawful following begins =
    let f = frame_from pieces left step in
    let goes = step_goes_on role limits before pieces left step is_plan.0 begins.0 lawful following in
    let rest = recut_after role limits (before ++ f ∷ []) (pieces_after pieces step) (left_after left step) plan is_plan.1 (lawful_after limits.message left step lawful) goes.following begins.1 in
    let later = recut_from (pieces_after pieces step) (left_after left step) plan in
    let event = cond f.fin (event_at before f ∷ []) [] in
    record {
      lawful = (goes.law, λ is. ap (recut_from (pieces_after pieces step) (left_after left step)) (nothing_after_the_end role limits (pieces_after pieces step) (left_after left step) plan (goes.close_last is) begins.1), rest.lawful);
      following = subst (λ (fs : List Frame). IsOfPieces (pieces_following pieces (step ∷ plan)) (next_message (left_following left (step ∷ plan))) (unfinished fs)) (push-append before f later) rest.following;
      events = append_assoc event (events_after (before ++ f ∷ []) later) (left_following left (step ∷ plan)) ∙ ap (λ (events : List MeantEvent). event ++ events) rest.events ∙ goes.event;
    }

-- ---- the recut by a plan that fits

nothing_pends : (role : Role) (limits : Limits) (plan : List Step) (events : List MeantEvent) → Fits role limits plan events → pending plan ≡ []
nothing_pends role limits plan events fits =
    none_pend (pending plan) (λ some. let next = fits.begins.unended some in let is = next.1 in let none = ap next_text fits.all in cc)
  where
    none_pend : (pieces : List Step) → ((pieces ≡ [] → ⊥) → ⊥) → pieces ≡ []
    none_pend [] not_some = refl
    none_pend (piece ∷ pieces) not_some = absurd (not_some (λ none. cc))

module _ (role : Role) (limits : Limits) (events : List MeantEvent) (plan : List Step) (lawful : AreLawful limits.message events) (is_plan : IsPlan plan) (fits : Fits role limits plan events) where
  frames_from : AreFrames role limits [] events (recut_from [] events plan) (pieces_following [] plan) (left_following events plan)
  frames_from = recut_after role limits [] [] events plan is_plan lawful (of_no_pieces (next_message events)) (begins_from role limits events [] plan fits.begins)

  none_left : left_following events plan ≡ []
  none_left = sym (events_left_are plan events) ∙ fits.all

  pub recut_is_lawful : IsLawful role limits (recut plan events)
  recut_is_lawful = subst (IsLawful role limits) (sym (recut_is plan events)) (lawful_from_front role limits [] (recut_from [] events plan) (lawful_nil role limits) no_close_nil frames_from.lawful)

  pub recut_is_finished : unfinished (recut plan events) ≡ []
  recut_is_finished =
      ap unfinished (recut_is plan events)
      ∙ nil_from_length (unfinished (recut_from [] events plan)) (frames_from.following.count ∙ ap length (sym (pending_is plan) ∙ nothing_pends role limits plan events fits))

  pub recut_means : meaning (recut plan events) ≡ events
  recut_means =
      ap meaning (recut_is plan events) ∙ sym (append-nil (events_after [] (recut_from [] events plan)))
      ∙ ap (λ (later : List MeantEvent). events_after [] (recut_from [] events plan) ++ later) (sym none_left) ∙ frames_from.events

  pub recut_is_accepted : IsAccepted role limits (recut_bytes plan events) (recut plan events)
  recut_is_accepted = finished_is_accepted role limits (recut plan events) recut_is_lawful recut_is_finished
