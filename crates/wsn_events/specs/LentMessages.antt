-- What an event source's reader holds: the normal form of events that it takes at once, or the payload of a message that
-- it lends, of one whole frame.
use Rattle.std.specs.Prelude.{◌≡◌, ℕ, ◌<◌, ◌≤◌, true, Option, None, IfSome, IfNone, List, [], ◌∷◌, ◌++◌, length, Result}
use Rattle.wsn_wire.specs.declared.endpoint.Role.{Role}
use Rattle.wsn_wire.specs.declared.opcode.Kind.{Kind}
use Rattle.wsn_wire.specs.Frame.{Frame, stream}
use Rattle.wsn_rules.specs.Lawful.{IsLawful}
use Rattle.wsn_rules.specs.LawfulEvents.{IsLawfulEvent}
use Rattle.wsn_rules.specs.Limits.{Limits}
use Rattle.wsn_rules.specs.Meaning.{MeantEvent, Message, event_at, meaning}
use Rattle.wsn_rules.specs.ShownStream.{event_offset, event_frames}
use Rattle.wsn_scan.specs.Positions.{BetweenFrames}
use Rattle.wsn_scan.specs.Judging.{chunk_size}
use Rattle.wsn_events.specs.SourceStates.{SourceState, HasGiven, answered, offset_of, frames_of, events_ahead}
use Rattle.wsn_io.specs.declared.stop.Stop.{Stop}
use Rattle.wsn_io.specs.Transfer.{Outgoing}
use Rattle.wsn_io.specs.Stops.{IsWrittenOrStops}
use Rattle.wsn_rules.specs.NormalForm.{normal_form}
use Rattle.wsn_scan.specs.FrameReaders.{held_payload}

-- the bytes that a source holds of what came last
abbrev pub held_bytes : {A : Type 0} → SourceState A → List ℕ
held_bytes reading = held_payload reading.reader

-- After the events given the source has given more events, and holds their normal form.
pub record TakesEventsAfter {A : Type 0} (role : Role) (limits : Limits) (new : SourceState A) (came : List ℕ)
    (given : List MeantEvent) : Type 0 where
  pub events : List MeantEvent
  pub has : HasGiven role limits new came (given ++ events)
  pub normal_is : held_bytes new ≡ normal_form role events

-- After the events given the source has given more events, or none, and their normal form was written; or the write
-- failed.
pub record PutsTaken {A : Type 0} (role : Role) (limits : Limits) (new : SourceState A) (came : List ℕ)
    (given : List MeantEvent) (before after : Outgoing) (result : Result (Unit {0}) Stop) : Type 0 where
  pub events : List MeantEvent
  pub has : HasGiven role limits new came (given ++ events)
  pub written : IsWrittenOrStops before after (normal_form role events) result

-- the message of this kind whose payload is the bytes that a source holds
abbrev pub lent_message : {A : Type 0} → SourceState A → Kind → MeantEvent
lent_message reading kind = Message kind (held_bytes reading)

-- After the events given the source has given one more, which it lends: a message of this kind. It is lawful, and is the
-- next event of the bytes that came, at the frame that ends it, which is the last that the source has taken; at most
-- `chunk_size` bytes came after it. The source has its offset and the number of its frames.
pub record LendsMessage {A : Type 0} (role : Role) (limits : Limits) (reading : SourceState A) (came : List ℕ)
    (given : List MeantEvent) (kind : Kind) : Type 0 where
  pub has : HasGiven role limits reading came (given ++ lent_message reading kind ∷ [])
  pub lawful : IsLawfulEvent (lent_message reading kind)
  pub before : List Frame
  pub frame : Frame
  pub are_lawful : IsLawful role limits (before ++ frame ∷ [])
  pub rest : List ℕ
  pub whole : came ≡ stream (before ++ frame ∷ []) ++ rest
  pub soon : length rest ≤ chunk_size
  pub final : frame.fin ≡ true
  pub first : given ≡ meaning before
  pub ended : lent_message reading kind ≡ event_at before frame
  pub last : has.frames ≡ before ++ frame ∷ []
  pub between : has.position ≡ BetweenFrames
  pub payload_is : held_bytes reading ≡ frame.payload
  pub offset : offset_of reading ≡ event_offset before frame
  pub count : frames_of reading ≡ event_frames before frame

-- What a call of `take_message` did: it lends the next event, a message, or nothing has changed.
pub record MayLend {A : Type 0} (before reading : SourceState A) (lent : Option Kind) : Type 0 where
  pub taken : IfSome lent (λ kind. (role : Role) (limits : Limits) (came : List ℕ) (given : List MeantEvent) →
      HasGiven role limits before came given → LendsMessage role limits reading came given kind)
  pub going : IfSome lent (λ _. answered before ≡ None)
  pub none : IfNone lent (reading ≡ before)
  pub falls : IfSome lent (λ _. events_ahead reading < events_ahead before)
