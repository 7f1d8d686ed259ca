-- A normal form, refragmented by the plan of the input that it was written of, is that input.
use Rattle.std.proofs.Common.{◌≡◌, ℕ, ◌+◌, ◌-◌, ◌≤◌, Bool, cond, Option, None, Some, Ok, List, [], ◌∷◌, ◌++◌, length, take, refl, sym, ap, ◌∙◌, subst, arith, length-append}
use Rattle.std.proofs.lemmas.List.{take-append-le, take_all}
use Rattle.wsn_wire.specs.declared.endpoint.Role.{Role}
use Rattle.wsn_wire.specs.declared.opcode.Op.{Op}
use Rattle.wsn_wire.specs.declared.opcode.Op.TheVariants.{Close}
use Rattle.wsn_wire.specs.Frame.{Frame, stream}
use Rattle.wsn_io.specs.Transfer.{Outgoing, IsWritten}
use Rattle.wsn_rules.specs.declared.step.Step.{Step}
use Rattle.wsn_rules.specs.declared.verdict.Summary.{Summary}
use Rattle.wsn_rules.specs.declared.verdict.Verdict.{Verdict}
use Rattle.wsn_rules.specs.declared.verdict.Verdict.TheVariants.{Accepted}
use Rattle.wsn_rules.specs.Accepted.{IsAccepted}
use Rattle.wsn_rules.specs.Fitting.{Fits}
use Rattle.wsn_rules.specs.Group.{unfinished}
use Rattle.wsn_rules.specs.Limits.{Limits, InRange}
use Rattle.wsn_rules.specs.Meaning.{MeantEvent, meaning}
use Rattle.wsn_rules.specs.NormalForm.{normal_form}
use Rattle.wsn_rules.specs.Recut.{recut_bytes, plan_of}
use Rattle.wsn_rules.specs.Summary.{counted, close_code, close_of, is_close}
use Rattle.wsn_rules.specs.Verdict.{IsVerdict}
use Rattle.wsn_rules.proofs.NormalLaws.{own_frames}
use Rattle.wsn_rules.proofs.OneVerdict.{one_verdict}
use Rattle.wsn_rules.proofs.PlanTheory.PlansOfFrames.{plan_of_fits, plan_of_restores}
use Rattle.wsn_events.specs.Normalised.{IsNormalisedWhole}
use Rattle.wsn_plan.specs.declared.planning.PlanAnswer.TheVariants.{Plan}
use Rattle.wsn_plan.specs.declared.recutting.RecutAnswer.{RecutAnswer}
use Rattle.wsn_plan.specs.declared.recutting.RecutAnswer.TheVariants.{Done}
use Rattle.wsn_plan.specs.Planning.{IsPlannedWhole, IsRestored}
use Rattle.wsn_rules.specs.SameMeaning.{IsAnAccepted}
use Rattle.wsn_plan.specs.Recutting.{IsAnswerTo, GoesOut, IsRecutWhole}
use Rattle.wsn_plan.proofs.OneRecut.{one_recut_answer}

-- ---- the bytes used, and the tail

after_an_open : (here : Bool) (code : Option ℕ) (later : Option (Option ℕ)) → cond here (Some code) later ≡ None → later ≡ None
after_an_open here code later none = grind arith

ends_closed : (before : List Frame) (f : Frame) → f.op ≡ Close → close_of (before ++ f ∷ []) ≡ None → ⊥
ends_closed [] f is none =
    let has_reported : cond (is_close Close) (Some (close_code f.payload)) None ≡ None = subst (λ (o : Op). cond (is_close o) (Some (close_code f.payload)) None ≡ None) is none in
    absurd cc
ends_closed (b ∷ before) f is none = ends_closed before f is (after_an_open (is_close b.op) (close_code b.payload) (close_of (before ++ f ∷ [])) none)

-- The frames of an accepted input are a prefix of it, and all of it without a Close.
pub record IsFront (all : List ℕ) (fs : List Frame) : Type 0 where
  pub front : take (length (stream fs)) all ≡ stream fs
  pub within : length (stream fs) ≤ length all
  pub without_close : close_of fs ≡ None → length all ≡ length (stream fs)

accepted_front : (role : Role) (limits : Limits) (all : List ℕ) (fs : List Frame) → IsAccepted role limits all fs → IsFront all fs
accepted_front role limits all fs accepted = grind (arith, take_all, take-append-le, length-append, ends_closed)

-- ---- the recut

module _ (role : Role) (limits : Limits) (range : InRange limits) (all : List ℕ) (plan : List Step) (verdict : Verdict) (before after : Outgoing) where
  abbrev Restores : Type 0
  Restores = (normal : List ℕ) × IsWritten before after normal × ((recut_before recut_after : Outgoing) (answer : RecutAnswer)
      → IsRecutWhole role limits (λ _. plan) normal recut_before recut_after (Ok answer) → (answer ≡ Done) × IsRestored all verdict recut_before recut_after)

  -- for frames that leave no message unfinished
  module _ (summary : Summary) (fs : List Frame) (is : IsVerdict role limits all fs (Accepted summary)) (finished : unfinished fs ≡ []) (same : plan ≡ plan_of fs) where
    abbrev normal : List ℕ
    normal = normal_form role (meaning fs)

    own : (gs : List Frame) × IsAccepted role limits normal gs × (normal ≡ stream gs) × (unfinished gs ≡ []) × (meaning gs ≡ meaning fs)
    own = own_frames role limits all fs range is.0

    own_verdict : (own_summary : Summary) × IsVerdict role limits normal own.0 (Accepted own_summary)
    own_verdict = (counted own.0 (length (stream own.0)) (length normal - length (stream own.0)), (own.1, refl))

    fits : Fits role limits plan (meaning fs)
    fits = subst (λ (p : List Step). Fits role limits p (meaning fs)) (sym same) (plan_of_fits role limits fs is.0.lawful finished)

    bytes : recut_bytes plan (meaning fs) ≡ stream fs
    bytes = ap (λ (p : List Step). recut_bytes p (meaning fs)) same ∙ ap stream (plan_of_restores role limits fs is.0.lawful finished)

    is_front : IsFront all fs
    is_front = accepted_front role limits all fs is.0

    used : summary.used ≡ length (stream fs)
    used = ap (λ (s : Summary). s.used) is.1

    tail : summary.tail ≡ length all - length (stream fs)
    tail = ap (λ (s : Summary). s.tail) is.1

    restored_by : (recut_before recut_after : Outgoing) (answer : RecutAnswer) → IsRecutWhole role limits (λ _. plan) normal recut_before recut_after (Ok answer)
        → (answer ≡ Done) × IsRestored all (Accepted summary) recut_before recut_after
    restored_by recut_before recut_after answer (v, gs, v_is, within, has_reported, out) = (done, (written, whole, no_tail))
      where
        alike : (gs ≡ own.0) × (v ≡ Accepted own_verdict.0)
        alike = one_verdict role limits normal gs own.0 v (Accepted own_verdict.0) v_is own_verdict.1

        means : meaning gs ≡ meaning fs
        means = ap meaning alike.0 ∙ own.4

        reported_here : IsAnswerTo role limits plan (Accepted own_verdict.0) (meaning fs) answer
        reported_here = subst (λ (u : Verdict). IsAnswerTo role limits plan u (meaning fs) answer) alike.1 (subst (λ (es : List MeantEvent). IsAnswerTo role limits plan v es answer) means has_reported)

        done : answer ≡ Done
        done = one_recut_answer role limits plan (Accepted own_verdict.0) (meaning fs) answer Done reported_here (tt, fits)

        out_here : IsWritten recut_before recut_after (recut_bytes plan (meaning fs))
        out_here = subst (λ (a : RecutAnswer). GoesOut plan (meaning fs) recut_before recut_after a) done (subst (λ (es : List MeantEvent). GoesOut plan es recut_before recut_after answer) means out)

        written : IsWritten recut_before recut_after (take summary.used all)
        written = subst (λ (bs : List ℕ). IsWritten recut_before recut_after bs) (bytes ∙ sym is_front.front ∙ ap (λ (n : ℕ). take n all) (sym used)) out_here

        whole : summary.used + summary.tail ≡ length all
        whole = omega (arith, used, tail, is_front.within)

        no_tail : summary.close ≡ None → summary.tail ≡ 0
        no_tail none = omega (arith, tail, is_front.without_close (sym (ap (λ (s : Summary). s.close) is.1) ∙ none))

  pub restored : (A : Type 0) → IsPlannedWhole {A = A} role limits all (Ok (Plan plan)) → IsNormalisedWhole role limits all before after (Ok verdict) → Restores
  restored A (v, fs, v_is, within, (accepted, finished, same)) (gs, is, also_within, written) = by_verdict v v_is accepted (one_verdict role limits all fs gs v verdict v_is is)
    where
      by_verdict : (u : Verdict) → IsVerdict role limits all fs u → IsAnAccepted u → (fs ≡ gs) × (u ≡ verdict) → Restores
      by_verdict (Accepted s) u_is ok alike = (
        normal s fs u_is finished same,
        subst (λ (hs : List Frame). IsWritten before after (normal_form role (meaning hs))) (sym alike.0) written,
        λ recut_before recut_after answer did.
            let by = restored_by s fs u_is finished same recut_before recut_after answer did in
            (by.0, subst (λ (w : Verdict). IsRestored all w recut_before recut_after) alike.1 by.1),
      )
      by_verdict _ u_is ok alike = absurd ok
