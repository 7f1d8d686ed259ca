-- The context after a plan, computed step by step, is the pending Pieces and the events left of the definitions; so the
-- recut by steps is the recut.
use Rattle.std.proofs.Common.{◌≡◌, ℕ, ◌+◌, List, [], ◌∷◌, ◌++◌, length, filter, drop, refl, sym, ap, ◌∙◌, append-nil, drop-drop}
use Rattle.std.proofs.lemmas.List.{length-append}
use Rattle.std.proofs.lemmas.List.Elements.{filter-append}
use Rattle.std.proofs.lemmas.List.Sums.{fold_push, fold-append}
use Rattle.wsn_wire.specs.Frame.{Frame}
use Rattle.wsn_rules.specs.declared.step.Step.{Step}
use Rattle.wsn_rules.specs.declared.step.Step.TheVariants.{Piece, Last, Control}
use Rattle.wsn_rules.specs.Meaning.{MeantEvent}
use Rattle.wsn_rules.specs.Plan.{is_end, ends, pending, events_left}
use Rattle.wsn_rules.specs.Recut.{frame_at, frames_after, recut}
use Rattle.wsn_rules.proofs.Prefixes.{push-append}
use Rattle.wsn_rules.proofs.PlanTheory.FromTheFront.{pieces_after, left_after, left_following, pieces_following, recut_from}

-- ---- one more step

pub pending_push : (plan : List Step) (step : Step) → pending (plan ++ step ∷ []) ≡ pieces_after (pending plan) step
pending_push plan step = fold_push pieces_after [] plan step

drop_one_more : (n : ℕ) (events : List MeantEvent) → drop (n + 1) events ≡ drop 1 (drop n events)
drop_one_more n events = sym (drop-drop 1 n events)

left_after_an_end : (plan : List Step) (step : Step) (events : List MeantEvent) → ends (plan ++ step ∷ []) ≡ ends plan ++ step ∷ [] → events_left events (plan ++ step ∷ []) ≡ drop 1 (events_left events plan)
left_after_an_end plan step events more =
    ap (λ (n : ℕ). drop n events) (ap length more ∙ length-append (ends plan) (step ∷ [])) ∙ drop_one_more (length (ends plan)) events

pub left_push : (plan : List Step) (step : Step) (events : List MeantEvent) → events_left events (plan ++ step ∷ []) ≡ left_after (events_left events plan) step
left_push plan (Piece len key form) events =
    ap (λ (n : ℕ). drop n events) (ap length (filter-append is_end plan (Piece len key form ∷ []) ∙ append-nil (ends plan)))
left_push plan (Last key form) events = left_after_an_end plan (Last key form) events (filter-append is_end plan (Last key form ∷ []))
left_push plan (Control key) events = left_after_an_end plan (Control key) events (filter-append is_end plan (Control key ∷ []))

-- ---- one more plan

pub pending-append : (before plan : List Step) → pending (before ++ plan) ≡ pieces_following (pending before) plan
pending-append before plan = fold-append pieces_after [] before plan

pub left-append : (before plan : List Step) (events : List MeantEvent) → events_left events (before ++ plan) ≡ left_following (events_left events before) plan
left-append before [] events = ap (events_left events) (append-nil before)
left-append before (step ∷ plan) events =
    ap (events_left events) (sym (push-append before step plan)) ∙ left-append (before ++ step ∷ []) plan events
    ∙ ap (λ (left : List MeantEvent). left_following left plan) (left_push before step events)

pub frames_after_are : (events : List MeantEvent) (before plan : List Step) → frames_after events before plan ≡ recut_from (pending before) (events_left events before) plan
frames_after_are events before [] = refl
frames_after_are events before (step ∷ plan) =
    let later = frames_after_are events (before ++ step ∷ []) plan
    ∙ ap (λ (pieces : List Step). recut_from pieces (events_left events (before ++ step ∷ [])) plan) (pending_push before step)
    ∙ ap (λ (left : List MeantEvent). recut_from (pieces_after (pending before) step) left plan) (left_push before step events) in
    ap (λ (fs : List Frame). frame_at events before step ∷ fs) later

-- ---- a plan from its start

pub pending_is : (plan : List Step) → pending plan ≡ pieces_following [] plan
pending_is plan = refl

pub events_left_are : (plan : List Step) (events : List MeantEvent) → events_left events plan ≡ left_following events plan
events_left_are plan events = left-append [] plan events

pub recut_is : (plan : List Step) (events : List MeantEvent) → recut plan events ≡ recut_from [] events plan
recut_is plan events = frames_after_are events [] plan
