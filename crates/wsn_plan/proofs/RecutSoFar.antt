-- A recut, step by step: the frames so far and the next one.
use Rattle.std.proofs.Common.{◌≡◌, ℕ, ◌+◌, ◌<◌, ◌≤◌, ◌^◌, Some, List, [], ◌∷◌, ◌++◌, length, take, drop, get_or, sym, ap, ◌∙◌, subst, append-nil, arith}
use Rattle.std.proofs.lemmas.List.{drop_more, take_more, take-append-drop}
use Rattle.std.proofs.KnownBytes.{Appends-trans}
use Rattle.std.proofs.Math.Seq.{take-length, take-append-add}
use Rattle.std.specs.Io.KnownBytes.{Appends}
use Rattle.wsn_wire.specs.declared.endpoint.Role.{Role}
use Rattle.wsn_wire.specs.Frame.{Frame, frame_bytes, stream}
use Rattle.wsn_io.specs.Transfer.{Outgoing, IsWritten, IsPartlyWritten}
use Rattle.wsn_io.proofs.PutTexts.{front_of_more}
use Rattle.wsn_rules.specs.declared.step.Step.{Step}
use Rattle.wsn_rules.specs.declared.step.Step.TheVariants.{Piece, Last, Control}
use Rattle.wsn_rules.specs.Limits.{Limits}
use Rattle.wsn_rules.specs.Meaning.{MeantEvent}
use Rattle.wsn_rules.specs.Plan.{next_text}
use Rattle.wsn_rules.specs.Fitting.{BeginsToFit}
use Rattle.wsn_rules.specs.Recut.{next_message, frame_at, frames_after, recut, recut_bytes}
use Rattle.wsn_rules.proofs.Prefixes.{push-append}
use Rattle.wsn_rules.proofs.Walk.{stream-append}
use Rattle.wsn_rules.proofs.PlanTheory.FitsFromTheFront.{begins_prefix, step_law}
use Rattle.wsn_rules.proofs.PlanTheory.StepDecided.{pending_fit}
use Rattle.wsn_rules.proofs.PlanTheory.RecutSteps.{next_is, next_is_lawful}
use Rattle.wsn_plan.specs.declared.walking.Walk.{Walk}
use Rattle.wsn_plan.specs.Walking.{IsApplicable, HasAdvancedBy, held_after}
use Rattle.wsn_plan.specs.Framing.{frame_here, EncodesItsLength}
use Rattle.wsn_plan.specs.Recutting.{FitsWithin}
use Rattle.wsn_plan.proofs.WalkedSteps.{Follows, lawful_from, consumes, held_is_small, follows_on}

-- ---- the frames of a plan in parts

module _ (es : List MeantEvent) where
  frames-append : (before plan more : List Step) → frames_after es before (plan ++ more) ≡ frames_after es before plan ++ frames_after es (before ++ plan) more
  frames-append before [] more = ap (λ (b : List Step). frames_after es b more) (sym (append-nil before))
  frames-append before (step ∷ plan) more =
      ap (λ (fs : List Frame). frame_at es before step ∷ fs)
      (frames-append (before ++ step ∷ []) plan more ∙ ap (λ (b : List Step). frames_after es (before ++ step ∷ []) plan ++ frames_after es b more) (push-append before step plan))

  bytes-append : (plan more : List Step) → recut_bytes (plan ++ more) es ≡ recut_bytes plan es ++ stream (frames_after es plan more)
  bytes-append plan more = ap stream (frames-append [] plan more) ∙ stream-append (recut plan es) (frames_after es plan more)

  pub bytes_push : (plan : List Step) (i : ℕ) (d : Step) → i < length plan
      → recut_bytes (take (i + 1) plan) es ≡ recut_bytes (take i plan) es ++ frame_bytes (frame_at es (take i plan) (get_or plan i d))
  bytes_push plan i d less =
      ap (λ (steps : List Step). recut_bytes steps es) (take_more plan i d less) ∙ bytes-append (take i plan) (get_or plan i d ∷ [])
      ∙ ap (λ (bs : List ℕ). recut_bytes (take i plan) es ++ bs) (append-nil (frame_bytes (frame_at es (take i plan) (get_or plan i d))))

  pub bytes_after : (plan : List Step) (i : ℕ) → recut_bytes plan es ≡ recut_bytes (take i plan) es ++ stream (frames_after es (take i plan) (drop i plan))
  bytes_after plan i = ap (λ (steps : List Step). recut_bytes steps es) (sym (take-append-drop i plan)) ∙ bytes-append (take i plan) (drop i plan)

-- ---- the frame by the state of the walk

module _ (role : Role) (limits : Limits) (es : List MeantEvent) (plan : List Step) (walk : Walk) (walked : Follows role limits es plan walk) where
  pub frame_is : (step : Step) → frame_here walk (drop walk.event es) step ≡ frame_at es plan step
  frame_is step = grind arith

  pub form_is : (step : Step) → BeginsToFit role limits (plan ++ step ∷ []) es → EncodesItsLength walk (drop walk.event es) step
  form_is (Piece len key form) begins = (step_law role limits es plan (Piece len key form) begins).1.1.1
  form_is (Last key form) begins =
      let law = (step_law role limits es plan (Last key form) begins).1 in
      rw (ap (λ (left : List MeantEvent). (next_message left).1) (walked.remaining ∙ law.3), walked.summed) law.5.1
  form_is (Control key) begins = tt

-- ---- a plan that fits, step by step

-- The walk has followed the first i steps.
pub record IsUnderWay (es : List MeantEvent) (plan : List Step) (i : ℕ) (walk : Walk) : Type 0 where
  pub within : FitsWithin plan es
  pub follows : Follows within.role within.limits es (take i plan) walk

module _ (es : List MeantEvent) (plan : List Step) (i : ℕ) (walk : Walk) (way : IsUnderWay es plan i walk) where
  pub begins_here : (d : Step) → i < length plan → BeginsToFit way.within.role way.within.limits (take i plan ++ get_or plan i d ∷ []) es
  begins_here d less =
      begins_prefix way.within.role way.within.limits es (take i plan ++ get_or plan i d ∷ []) (drop (i + 1) plan)
      (subst (λ (steps : List Step). BeginsToFit way.within.role way.within.limits steps es)
      (sym (push-append (take i plan) (get_or plan i d) (drop (i + 1) plan) ∙ sym (ap (λ (rest : List Step). take i plan ++ rest) (drop_more plan i d less)) ∙ take-append-drop i plan))
      way.within.fits.begins)

  pub held_fits : (text : List ℕ) → next_text (drop walk.event es) ≡ Some text → (walk.held ≤ length text) × (length text < 2 ^ 63)
  held_fits text is = grind (arith, pending_fit, next_is_lawful, lawful_from, next_is)

  module _ (d : Step) (less : i < length plan) where
    pub may_here : IsApplicable walk es (get_or plan i d)
    may_here = consumes way.within.role way.within.limits es (take i plan) walk (get_or plan i d) way.follows (begins_here d less)

    pub form_here : EncodesItsLength walk (drop walk.event es) (get_or plan i d)
    form_here = form_is way.within.role way.within.limits es (take i plan) walk way.follows (get_or plan i d) (begins_here d less)

    pub small_here : walk.held < 2 ^ 64 → held_after walk.held (get_or plan i d) < 2 ^ 64
    small_here small = held_is_small way.within.role way.within.limits es walk (get_or plan i d) way.within.range way.within.lawful small may_here

    pub way_on : (next : Walk) → HasAdvancedBy walk next (get_or plan i d) → IsUnderWay es plan (i + 1) next
    way_on next taken = record {
      within = way.within;
      follows = follows_on way.within.role way.within.limits es plan i d walk next less way.follows (begins_here d less) taken;
    }

    frame_before : frame_here walk (drop walk.event es) (get_or plan i d) ≡ frame_at es (take i plan) (get_or plan i d)
    frame_before = frame_is way.within.role way.within.limits es (take i plan) walk way.follows (get_or plan i d)

    more_bytes : recut_bytes (take i plan) es ++ frame_bytes (frame_here walk (drop walk.event es) (get_or plan i d)) ≡ recut_bytes (take (i + 1) plan) es
    more_bytes = ap (λ (f : Frame). recut_bytes (take i plan) es ++ frame_bytes f) frame_before ∙ sym (bytes_push es plan i d less)

    pub written_on : (before mid after : Outgoing) → IsWritten before mid (recut_bytes (take i plan) es) → IsWritten mid after (frame_bytes (frame_here walk (drop walk.event es) (get_or plan i d)))
        → IsWritten before after (recut_bytes (take (i + 1) plan) es)
    written_on before mid after went next = grind (arith, more_bytes, Appends-trans)

    pub partly_on : (before mid after : Outgoing) → IsWritten before mid (recut_bytes (take i plan) es) → IsPartlyWritten mid after (frame_bytes (frame_here walk (drop walk.event es) (get_or plan i d)))
        → IsPartlyWritten before after (recut_bytes plan es)
    partly_on before mid after went (failed, (k, out)) =
        let front = recut_bytes (take i plan) es in
        let frame = frame_bytes (frame_here walk (drop walk.event es) (get_or plan i d)) in
        let rest = stream (frames_after es (take (i + 1) plan) (drop (i + 1) plan)) in
        let longer = front_of_more (length front + k) (front ++ frame) rest in
        let whole : (front ++ frame) ++ rest ≡ recut_bytes plan es = ap (λ (bs : List ℕ). bs ++ rest) more_bytes ∙ sym (bytes_after es plan (i + 1)) in
        let same : front ++ take k frame ≡ take longer.0 (recut_bytes plan es) =
        sym (take-append-add front frame k) ∙ sym longer.1 ∙ ap (λ (bs : List ℕ). take longer.0 bs) whole in
        (failed, (longer.0, subst (λ (bs : List ℕ). Appends before.written after.written bs) same (Appends-trans before.written mid.written after.written front (take k frame) went.1 out)))

  pub all_written : (before after : Outgoing) → i ≡ length plan → IsWritten before after (recut_bytes (take i plan) es) → IsWritten before after (recut_bytes plan es)
  all_written before after is went = grind (arith, take-length)
