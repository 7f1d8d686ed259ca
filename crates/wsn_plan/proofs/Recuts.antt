-- What a recut answers at each of its ends, for the bytes that came and for all bytes of an input.
use Rattle.std.proofs.Common.{◌≡◌, ℕ, ◌+◌, ◌<◌, Option, Some, Result, Ok, Err, List, [], ◌++◌, length, take, map, inl, inr, refl, sym, ap, ◌∙◌, subst, append-nil, length-append, arith}
use Rattle.std.proofs.lemmas.List.{take-append-le, take_all, length-map}
use Rattle.std.specs.Io.KnownBytes.{Consumes}
use Rattle.wsn_wire.specs.declared.endpoint.Role.{Role}
use Rattle.wsn_wire.specs.Frame.{Frame, stream}
use Rattle.wsn_io.specs.Transfer.{Incoming, Outgoing}
use Rattle.wsn_rules.specs.declared.verdict.Summary.{Summary}
use Rattle.wsn_rules.specs.declared.verdict.Verdict.{Verdict}
use Rattle.wsn_rules.specs.declared.verdict.Verdict.TheVariants.{Accepted}
use Rattle.wsn_rules.specs.Limits.{Limits}
use Rattle.wsn_rules.specs.LawfulEvents.{AreLawful}
use Rattle.wsn_rules.specs.Accepted.{IsAccepted}
use Rattle.wsn_rules.specs.Meaning.{MeantEvent, meaning}
use Rattle.wsn_rules.specs.Verdict.{IsVerdict, IsUnrefused}
use Rattle.wsn_rules.proofs.LawfulMeaning.{lawful_meaning}
use Rattle.wsn_io.specs.declared.stop.Stop.{Stop}
use Rattle.wsn_io.specs.declared.stop.Stop.TheVariants as stop
use Rattle.wsn_scan.specs.Judging.{IsReached}
use Rattle.wsn_plan.specs.Gathering.{kept_meant, HasWholeFrame, IsStoppedAfter, IsGathered}
use Rattle.wsn_events.specs.Normalised.{IsWithinLimit}
use Rattle.wsn_events.specs.Sources.{IsMeaningOf}
use Rattle.wsn_events.proofs.WholeNormalForms.{of_all}
use Rattle.wsn_plan.specs.declared.gathering.Gathered.{Gathered}
use Rattle.wsn_plan.specs.declared.recutting.RecutAnswer.{RecutAnswer}
use Rattle.wsn_plan.specs.declared.recutting.RecutAnswer.TheVariants.{NotAccepted}
use Rattle.wsn_rules.specs.SameMeaning.{IsAnAccepted}
use Rattle.wsn_events.proofs.Comparisons.{not_accepted}
use Rattle.wsn_plan.specs.Recutting.{IsAnswerTo, GoesOut, IsRefragmented, Planner, IsRecutOf, IsRecut, IsRecutWhole}

accepted : (verdict : Verdict) (s : Summary) → verdict ≡ Accepted s → IsAnAccepted verdict
accepted verdict s is = subst IsAnAccepted (sym is) tt

frames_front : (role : Role) (limits : Limits) (bytes : List ℕ) (fs : List Frame) → IsAccepted role limits bytes fs → (rest : List ℕ) × (bytes ≡ stream fs ++ rest)
frames_front role limits bytes fs is =
    elim is.ends [ inl e ↦ ([], e.2 ∙ sym (append-nil (stream fs))) | inr e ↦ (e.1.0, e.1.1) ]

module _ {A B : Type 0} (role : Role) (limits : Limits) (planned : Planner) (old new : Incoming) (before : Outgoing) where
  pub stopped_before : (stopped : Stop) → IsGathered {A = A} {B = B} role limits old new (Err stopped) → IsRecut role limits planned old new before before (Err stopped)
  stopped_before stopped gathered = record { came = gathered.came; received = gathered.received; of_bytes = of stopped gathered.of_bytes }
    where
      of : (s : Stop) → IsStoppedAfter role limits new gathered.came s → IsRecutOf role limits planned new gathered.came before before (Err s)
      of stop.Write has_reported = absurd has_reported
      of _ has_reported = (has_reported, refl)

  module _ (g : Gathered A B) (gathered : IsGathered role limits old new (Ok g)) where
    abbrev events : List MeantEvent
    events = map kept_meant g.events.items

    pub isnt_accepted : ((s : Summary) → g.verdict ≡ Accepted s → ⊥) → IsRecut role limits planned old new before before (Ok (NotAccepted g.verdict))
    isnt_accepted none = record {
      came = gathered.came;
      received = gathered.received;
      of_bytes = (g.verdict, events, gathered.of_bytes, (refl, not_accepted g.verdict none), refl);
    }

    module _ (s : Summary) (is : g.verdict ≡ Accepted s) where
      frames_of : (fs : List Frame) × IsAccepted role limits gathered.came fs × (events ≡ meaning fs)
      frames_of =
          let meant_by : IsMeaningOf role limits gathered.came g.verdict events = gathered.of_bytes.1 in
          (meant_by.0, (subst (λ (v : Verdict). IsVerdict role limits gathered.came meant_by.0 v) is meant_by.1).0, meant_by.2)

      pub are_lawful : AreLawful limits.message events
      are_lawful = subst (AreLawful limits.message) (sym frames_of.2) (lawful_meaning role limits frames_of.0 frames_of.1.lawful gathered.range)

      pub cut : (after : Outgoing) (result : Result RecutAnswer Stop) → IsRefragmented role limits (planned events) events before after result → IsRecut role limits planned old new before after result
      cut after result did = record { came = gathered.came; received = gathered.received; of_bytes = of result did }
        where
          ok : IsAnAccepted g.verdict
          ok = accepted g.verdict s is

          of : (r : Result RecutAnswer Stop) → IsRefragmented role limits (planned events) events before after r → IsRecutOf role limits planned new gathered.came before after r
          of (Ok (NotAccepted verdict)) has_reported = absurd has_reported
          of (Err stop.Write) has_reported = (g.verdict, events, gathered.of_bytes, (ok, has_reported.1), has_reported.2)
          of (Err stop.Read) has_reported = let no : stop.Read ≡ stop.Write = has_reported.0 in absurd cc
          of (Err stop.InputLimit) has_reported = let no : stop.InputLimit ≡ stop.Write = has_reported.0 in absurd cc
          of (Err stop.Memory) has_reported = let no : stop.Memory ≡ stop.Write = has_reported.0 in absurd cc
          of _ has_reported = (g.verdict, events, gathered.of_bytes, (ok, has_reported.0), has_reported.1)

      reached : IsReached role limits new gathered.came (Accepted s)
      reached = subst (λ (v : Verdict). IsReached role limits new gathered.came v) is gathered.of_bytes.0

      all_within : take limits.input gathered.came ≡ gathered.came
      all_within = take_all limits.input gathered.came reached.3

      -- an allocation for the plan failed: there is an event, and so a whole frame
      whole_frame : 0 < length g.events.items → HasWholeFrame role limits (take limits.input gathered.came)
      whole_frame some =
          let front = frames_front role limits gathered.came frames_of.0 frames_of.1 in
          record {
            frames = frames_of.0;
            lawful = frames_of.1.lawful;
            some = λ none. omega (arith, length-map g.events.items kept_meant, ap (λ (es : List MeantEvent). length es) (frames_of.2 ∙ ap meaning none), some);
            rest = front.0;
            whole = all_within ∙ front.1;
          }

      pub no_memory : 0 < length g.events.items → IsRecut role limits planned old new before before (Err stop.Memory)
      no_memory some = record {
        came = gathered.came;
        received = gathered.received;
        of_bytes = ((inr (whole_frame some), reached.4), refl);
      }

-- ---- of all the bytes

-- one byte more than the limit came
pub past_limit : (role : Role) (limits : Limits) (came rest all : List ℕ) → all ≡ came ++ rest → length came ≡ limits.input + 1 → IsUnrefused role limits (take limits.input came)
    → (limits.input < length all) × IsUnrefused role limits (take limits.input all)
past_limit role limits came rest all is more unrefused =
    let size : length all ≡ length came + length rest = ap (λ (bs : List ℕ). length bs) is ∙ length-append came rest in
    let front : take limits.input all ≡ take limits.input came = ap (λ (bs : List ℕ). take limits.input bs) is ∙ take-append-le limits.input came rest (omega (arith, more)) in
    (omega (arith, size, more), subst (λ (bs : List ℕ). IsUnrefused role limits bs) (sym front) unrefused)

module _ (role : Role) (limits : Limits) (planned : Planner) where
  pub whole_recut : (old new : Incoming) (before after : Outgoing) (result : Result RecutAnswer Stop) (all : List ℕ) → IsRecut role limits planned old new before after result → old.remaining ≡ Some all
      → IsRecutWhole role limits planned all before after result
  whole_recut old new before after result all did known =
      by_rest new.remaining refl (subst (λ (a : Option (List ℕ)). Consumes a new.remaining did.came) known did.received.consumed.consumed)
    where
      came : List ℕ
      came = did.came

      by_result : (rest : List ℕ) → new.remaining ≡ Some rest → all ≡ came ++ rest → (r : Result RecutAnswer Stop)
          → IsRecutOf role limits planned new came before after r → IsRecutWhole role limits planned all before after r
      by_result rest left is (Ok answer) (verdict, kept, last, has_reported, out) =
          let fs = last.1.0 in
          let here = of_all role limits new came rest fs verdict last.0 left last.1.1 in (
            verdict,
            fs,
            subst (λ (bs : List ℕ). IsVerdict role limits bs fs verdict) (sym is) here.0,
            subst (λ (bs : List ℕ). IsWithinLimit limits bs verdict) (sym is) here.1,
            subst (λ (es : List MeantEvent). IsAnswerTo role limits (planned es) verdict es answer) last.1.2 has_reported,
            subst (λ (es : List MeantEvent). GoesOut (planned es) es before after answer) last.1.2 out,
          )
      by_result rest left is (Err stop.InputLimit) (has_reported, same) = let past = past_limit role limits came rest all is has_reported.0 has_reported.1 in (past.0, past.1, same)
      by_result rest left is _ has_reported = tt

      by_rest : (rest : Option (List ℕ)) → new.remaining ≡ rest → Consumes (Some all) rest came → IsRecutWhole role limits planned all before after result
      by_rest rest left consumed = grind (arith, by_result)
