-- Where an event is in a stream, as more bytes come and where the stream is accepted.
use Rattle.std.proofs.Common.{◌≡◌, ℕ, ◌≤◌, true, false, Option, None, Some, Ok, List, [], ◌∷◌, ◌++◌, length, refl, ap, subst, append_assoc, arith}
use Rattle.wsn_wire.specs.declared.endpoint.Role.{Role}
use Rattle.wsn_wire.specs.Frame.{Frame, stream}
use Rattle.wsn_io.specs.Transfer.{Incoming}
use Rattle.wsn_rules.specs.declared.verdict.Summary.{Summary}
use Rattle.wsn_rules.specs.declared.verdict.Verdict.{Verdict}
use Rattle.wsn_rules.specs.declared.verdict.Verdict.TheVariants.{Accepted}
use Rattle.wsn_rules.specs.declared.without.Without.{Without}
use Rattle.wsn_rules.specs.Lawful.{IsLawful}
use Rattle.wsn_rules.specs.LeftOut.{is_left_out, events_without}
use Rattle.wsn_rules.specs.Limits.{Limits}
use Rattle.wsn_rules.specs.Meaning.{MeantEvent, event_at, meaning}
use Rattle.wsn_rules.specs.ShownStream.{event_offset, event_frames}
use Rattle.wsn_rules.specs.ShownStream.Item.{Event}
use Rattle.wsn_rules.proofs.ShownEvents.{shown_in_accepted, none_in_accepted}
use Rattle.wsn_print.specs.DifferingPayloads.{event_in}
use Rattle.wsn_events.specs.declared.event.Event as code
use Rattle.wsn_events.specs.declared.excerpt.Excerpt.{Excerpt}
use Rattle.wsn_events.specs.EventsMeant.{meant}
use Rattle.wsn_events.specs.SourceStates.{SourceState, IsGiven, answered, offset_of, frames_of}
use Rattle.wsn_events.specs.Excerpts.{IsExcerptOf, IsExcerptAt}
use Rattle.wsn_events.specs.Sources.{IsLast}
use Rattle.wsn_events.proofs.GivenSoFar.{before_given}
use Rattle.wsn_events.proofs.LeftOut.{passed_over}

-- Among the events that aren't left out this one has the index k. It is not left out; its first frame is at this offset,
-- and it has this many frames.
pub record StandsAt (without : Without) (role : Role) (limits : Limits) (came : List ℕ) (k offset : ℕ) (event : MeantEvent) (count : ℕ) : Type 0 where
  pub before : List Frame
  pub frame : Frame
  pub lawful : IsLawful role limits (before ++ frame ∷ [])
  pub rest : List ℕ
  pub whole : came ≡ stream (before ++ frame ∷ []) ++ rest
  pub final : frame.fin ≡ true
  pub index : k ≡ length (events_without without (meaning before))
  pub kept : is_left_out without event ≡ false
  pub is : event ≡ event_at before frame
  pub offset_is : offset ≡ event_offset before frame
  pub count_is : count ≡ event_frames before frame

-- What is kept of the event with the index k: where this event is; or nothing, since the source has ended before.
abbrev pub Stands : {A : Type 0} → Without → Role → Limits → SourceState A → List ℕ → List MeantEvent → ℕ → Option Excerpt → Option MeantEvent → Type 0
Stands without role limits reading came events k (Some excerpt) (Some event) =
    (offset : ℕ) × (count : ℕ) × IsExcerptOf excerpt offset event count × StandsAt without role limits came k offset event count
Stands without role limits reading came events k None None =
    ((verdict : Verdict) × (answered reading ≡ Some (Ok verdict))) × (length (events_without without events) ≤ k)
Stands without role limits reading came events k excerpt event = ⊥

module _ (without : Without) (role : Role) (limits : Limits) where
  pub stands_longer : (came more : List ℕ) (k offset : ℕ) (event : MeantEvent) (count : ℕ) → StandsAt without role limits came k offset event count → StandsAt without role limits (came ++ more) k offset event count
  stands_longer came more k offset event count s = grind (arith, append_assoc)

  -- the event that a source gives, after those that were passed over
  pub given_stands : {A : Type 0} (reading : SourceState A) (came : List ℕ) (given passed : List MeantEvent) (event : code.Event A) → IsGiven role limits reading came (given ++ passed) event
      → events_without without passed ≡ [] → is_left_out without (meant event) ≡ false → StandsAt without role limits came (length (events_without without given)) (offset_of reading) (meant event) (frames_of reading)
  given_stands reading came given passed event g none kept = grind (arith, passed_over, before_given)

  -- ---- of an accepted stream

  pub excerpt_at : {A : Type 0} (reading : SourceState A) (new : Incoming) (came : List ℕ) (events : List MeantEvent) (summary : Summary) (k : ℕ) (excerpt : Option Excerpt) (event : Option MeantEvent)
      → IsLast role limits new came events (Ok (Accepted summary)) → Stands without role limits reading came events k excerpt event → IsExcerptAt without role limits came k excerpt
  excerpt_at reading new came events summary k (Some excerpt) (Some event) last s =
      let at = s.3 in
      let own = last.1 in
      let event_is : event ≡ event_at at.before at.frame = at.is in (
        Some (Event (event_offset at.before at.frame) (event_at at.before at.frame) (event_frames at.before at.frame)),
        shown_in_accepted without role limits came own.0 summary own.1 at.before at.frame at.rest k at.lawful at.whole at.final (subst (λ (e : MeantEvent). is_left_out without e ≡ false) event_is at.kept) at.index,
        subst (λ (n : ℕ). IsExcerptOf excerpt n (event_at at.before at.frame) (event_frames at.before at.frame)) at.offset_is
            (subst (λ (e : MeantEvent). IsExcerptOf excerpt s.0 e (event_frames at.before at.frame)) event_is (subst (λ (n : ℕ). IsExcerptOf excerpt s.0 event n) at.count_is s.2)),
      )
  excerpt_at reading new came events summary k None None last s =
      let own = last.1 in (
        None,
        none_in_accepted without role limits came own.0 summary own.1 k (subst (λ (es : List MeantEvent). length (events_without without es) ≤ k) own.2 s.1),
        tt,
      )
  excerpt_at reading new came events summary k _ _ last s = absurd s

  -- the event of the item that is shown there
  pub event_shown : {A : Type 0} (reading : SourceState A) (new : Incoming) (came : List ℕ) (events : List MeantEvent) (summary : Summary) (k : ℕ) (excerpt : Option Excerpt) (event : Option MeantEvent)
      (last : IsLast role limits new came events (Ok (Accepted summary))) (s : Stands without role limits reading came events k excerpt event) → event ≡ event_in (excerpt_at reading new came events summary k excerpt event last s).0
  unfolding excerpt_at
  event_shown reading new came events summary k (Some excerpt) (Some event) last s = ap Some s.3.is
  event_shown reading new came events summary k None None last s = refl
  event_shown reading new came events summary k _ _ last s = absurd s
