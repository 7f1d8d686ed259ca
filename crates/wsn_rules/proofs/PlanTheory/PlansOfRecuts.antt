-- A plan that fits is the plan of its recut; so different plans have different recuts.
use Rattle.std.proofs.Common.{◌≡◌, ◌↔◌, ℕ, ◌≤◌, List, [], ◌∷◌, ◌++◌, length, refl, sym, ap, ◌∙◌, subst}
use Rattle.wsn_wire.specs.declared.endpoint.Role.{Role}
use Rattle.wsn_wire.specs.Frame.{stream}
use Rattle.wsn_rules.specs.declared.step.Step.{Step}
use Rattle.wsn_rules.specs.declared.step.Step.TheVariants.{Piece, Last, Control}
use Rattle.wsn_rules.specs.Limits.{Limits}
use Rattle.wsn_rules.specs.Accepted.{IsAccepted}
use Rattle.wsn_rules.specs.Meaning.{MeantEvent}
use Rattle.wsn_rules.specs.LawfulEvents.{AreLawful}
use Rattle.wsn_rules.specs.Plan.{IsPlan, total}
use Rattle.wsn_rules.specs.Fitting.{Fits}
use Rattle.wsn_rules.specs.Recut.{next_message, recut, recut_bytes, step_of, plan_of}
use Rattle.wsn_rules.specs.Encodings.{Encode, AreRecut}
use Rattle.wsn_rules.proofs.OneVerdict.{same_bytes}
use Rattle.wsn_rules.proofs.PlanTheory.FromTheFront.{pieces_after, left_after, StepLaw, BeginsToFitFrom, frame_from, recut_from}
use Rattle.wsn_rules.proofs.PlanTheory.Context.{recut_is}
use Rattle.wsn_rules.proofs.PlanTheory.FitsFromTheFront.{begins_from}
use Rattle.wsn_rules.proofs.PlanTheory.MessageFrames.{op_after_is_data, piece_frame, last_frame, control_frame, length_of_piece}
use Rattle.wsn_rules.proofs.PlanTheory.RecutSteps.{next_is}
use Rattle.wsn_rules.proofs.PlanTheory.RecutFrames.{lawful_after, recut_is_lawful, recut_is_finished, recut_means, recut_is_accepted}
use Rattle.wsn_rules.proofs.PlanTheory.PlansOfFrames.{step_of_control, step_of_last, step_of_piece, plan_of_is_plan, plan_of_fits, plan_of_restores}

-- ---- the step of a step's frame

step_of_frame : (role : Role) (limits : Limits) (pieces : List Step) (left : List MeantEvent) (step : Step) → AreLawful limits.message left → StepLaw role limits pieces left step
    → step_of (frame_from pieces left step) ≡ step
step_of_frame role limits pieces left (Piece len key form) lawful law =
    let fit = law.1.0 in
    let message = next_message left in
    let text_is = next_is left fit.0 fit.1 in
    let size = length_of_piece pieces message.1 len key form (subst (λ (text : List ℕ). total (pieces ++ Piece len key form ∷ []) ≤ length text) (sym text_is) fit.2.size) in
    step_of_piece (piece_frame pieces len key form message) (op_after_is_data (length pieces) message.0) refl ∙ ap (λ (n : ℕ). Piece n key form) size
step_of_frame role limits pieces left (Last key form) lawful law =
    step_of_last (last_frame pieces key form (next_message left)) (op_after_is_data (length pieces) (next_message left).0) refl
step_of_frame role limits pieces left (Control key) lawful law =
    let next = law.1 in
    subst (λ (events : List MeantEvent). step_of (frame_from pieces events (Control key)) ≡ Control key) (sym next.3)
    (step_of_control (control_frame key (next.0, next.1)) (subst (AreLawful limits.message) next.3 lawful).0.control)

plan_of_recut_from : (role : Role) (limits : Limits) (pieces : List Step) (left : List MeantEvent) (plan : List Step) → AreLawful limits.message left → BeginsToFitFrom role limits pieces left plan
    → plan_of (recut_from pieces left plan) ≡ plan
plan_of_recut_from role limits pieces left [] lawful begins = refl
plan_of_recut_from role limits pieces left (step ∷ plan) lawful begins =
    ap (λ (s : Step). s ∷ plan_of (recut_from (pieces_after pieces step) (left_after left step) plan)) (step_of_frame role limits pieces left step lawful begins.0)
    ∙ ap (λ (steps : List Step). step ∷ steps) (plan_of_recut_from role limits (pieces_after pieces step) (left_after left step) plan (lawful_after limits.message left step lawful) begins.1)

module _ (role : Role) (limits : Limits) (events : List MeantEvent) (lawful : AreLawful limits.message events) where
  pub plan_of_recut : (plan : List Step) → Fits role limits plan events → plan_of (recut plan events) ≡ plan
  plan_of_recut plan fits = ap plan_of (recut_is plan events) ∙ plan_of_recut_from role limits [] events plan lawful (begins_from role limits events [] plan fits.begins)

  pub same_plan : (plan other : List Step) → IsPlan plan → IsPlan other → Fits role limits plan events → Fits role limits other events → recut_bytes plan events ≡ recut_bytes other events → plan ≡ other
  same_plan plan other is_plan also fits too same =
      let frames = same_bytes role limits (recut plan events) (recut other events)
      (recut_is_lawful role limits events plan lawful is_plan fits) (recut_is_lawful role limits events other lawful also too) same in
      sym (plan_of_recut plan fits) ∙ ap plan_of frames ∙ plan_of_recut other too

  -- ---- an input that encodes these events is a recut of them

  recut_of_encoding : (bytes : List ℕ) → Encode role limits events bytes → AreRecut role limits events bytes
  recut_of_encoding bytes spell =
      let lawful_frames = spell.1.lawful in (
        plan_of spell.0,
        plan_of_is_plan role limits spell.0 lawful_frames,
        subst (Fits role limits (plan_of spell.0)) spell.4 (plan_of_fits role limits spell.0 lawful_frames spell.2),
        spell.3 ∙ ap stream (sym (plan_of_restores role limits spell.0 lawful_frames spell.2)) ∙ ap (recut_bytes (plan_of spell.0)) spell.4,
      )

  encoding_of_recut : (bytes : List ℕ) → AreRecut role limits events bytes → Encode role limits events bytes
  encoding_of_recut bytes cut = (
    recut cut.0 events,
    subst (λ (whole : List ℕ). IsAccepted role limits whole (recut cut.0 events)) (sym cut.3) (recut_is_accepted role limits events cut.0 lawful cut.1 cut.2),
    recut_is_finished role limits events cut.0 lawful cut.1 cut.2,
    cut.3,
    recut_means role limits events cut.0 lawful cut.1 cut.2,
  )

  pub spell_iff_recut : (bytes : List ℕ) → Encode role limits events bytes ↔ AreRecut role limits events bytes
  spell_iff_recut bytes = (recut_of_encoding bytes, encoding_of_recut bytes)
