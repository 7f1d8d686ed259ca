-- An event source's state, and how it relates to the bytes that it has read and the events that it has given.
use Rattle.std.specs.Prelude.{◌≡◌, ℕ, ◌+◌, ◌≤◌, true, false, Option, None, Some, Result, Ok, Err, List, [], ◌∷◌, ◌++◌, length, take, ⊤}
use Rattle.wsn_wire.specs.declared.endpoint.Role.{Role}
use Rattle.wsn_wire.specs.Frame.{Frame, stream}
use Rattle.wsn_io.specs.Transfer.{Incoming, IsConsumed}
use Rattle.wsn_rules.specs.declared.verdict.Verdict.{Verdict}
use Rattle.wsn_rules.specs.Group.{unfinished, payload_of}
use Rattle.wsn_rules.specs.Lawful.{IsLawful}
use Rattle.wsn_rules.specs.LawfulEvents.{IsLawfulEvent}
use Rattle.wsn_rules.specs.Limits.{Limits}
use Rattle.wsn_rules.specs.Meaning.{MeantEvent, event_at, meaning}
use Rattle.wsn_rules.specs.ShownStream.{event_offset, event_frames}
use Rattle.wsn_io.specs.declared.stop.Stop.{Stop}
use Rattle.wsn_scan.specs.declared.frame_reader.FrameReader.{FrameReader}
use Rattle.wsn_scan.specs.Positions.{Position}
use Rattle.wsn_scan.specs.FrameReaders.{HasTaken, parts_ahead}
use Rattle.wsn_scan.specs.Judging.{chunk_size}
use Rattle.wsn_events.specs.declared.event.Event.{Event}
use Rattle.wsn_events.specs.declared.reassembly.Reassembly.{Reassembly}
use Rattle.wsn_events.specs.declared.source.Next.{Next}
use Rattle.wsn_events.specs.declared.source.Next.TheVariants as nexts
use Rattle.wsn_events.specs.EventsMeant.{meant}
use Rattle.wsn_events.specs.Reassembly.{IsReassembled, offset_given, frames_given}
use Rattle.wsn_events.specs.Sources.{AreFirstOf, IsLast}

-- what a source holds: its reader, the open message so far, and the verdict or stop that it has ended with
pub record SourceState (A : Type 0) : Type 0 where
  pub reader : FrameReader
  pub reassembly : Reassembly A
  pub answer : Option (Result Verdict Stop)

-- It has read the bytes that came, given the events of the frames that were taken to their ends, and not ended.
pub record HasGiven {A : Type 0} (role : Role) (limits : Limits) (reading : SourceState A) (came : List ℕ)
    (given : List MeantEvent) : Type 0 where
  pub frames : List Frame
  pub position : Position
  pub has_taken : HasTaken role limits reading.reader came frames position
  pub reassembly : IsReassembled reading.reassembly frames position
  pub events : given ≡ meaning frames
  pub going : reading.answer ≡ None

-- It has read some bytes, or none, and has not ended.
pub record IsAtWork {A : Type 0} (reading : SourceState A) : Type 0 where
  pub role : Role
  pub limits : Limits
  pub came : List ℕ
  pub given : List MeantEvent
  pub has : HasGiven role limits reading came given

-- the verdict or stop that a source has ended with, if it has ended
abbrev pub answered : {A : Type 0} → SourceState A → Option (Result Verdict Stop)
answered reading = reading.answer

-- how many bytes of the open message a source holds
abbrev pub held_of : {A : Type 0} → SourceState A → ℕ
held_of reading = length reading.reassembly.message.items

-- the offset of the first frame of the event that a source gave last
abbrev pub offset_of : {A : Type 0} → SourceState A → ℕ
offset_of reading = offset_given reading.reassembly

-- the number of its frames
abbrev pub frames_of : {A : Type 0} → SourceState A → ℕ
frames_of reading = frames_given reading.reassembly

-- an upper bound on the number of events that may still come
abbrev pub events_ahead : {A : Type 0} → SourceState A → ℕ
events_ahead reading = parts_ahead reading.reader

-- A source that has not ended is at work.
abbrev pub HasBegunOrEnded : {A : Type 0} → SourceState A → Type 0
HasBegunOrEnded reading = answered reading ≡ None → IsAtWork reading

-- Of what it has read, given and answered, nothing has changed.
pub record IsAsBefore {A : Type 0} (old new : SourceState A) : Type 0 where
  pub given : (role : Role) (limits : Limits) (came : List ℕ) (given : List MeantEvent) →
      HasGiven role limits old came given → HasGiven role limits new came given
  pub answer : answered new ≡ answered old
  pub left : events_ahead new ≡ events_ahead old

-- The result is an event: neither a verdict nor a stop.
abbrev pub IsEvent : {A : Type 0} → Result (Next A) Stop → Type 0
IsEvent (Ok (nexts.Event event)) = ⊤
IsEvent answer = ⊥

-- the result of `next` that ends a source with this answer
abbrev pub next_of : {A : Type 0} → Result Verdict Stop → Result (Next A) Stop
next_of (Ok verdict) = Ok (nexts.Done verdict)
next_of (Err halted) = Err halted

-- The last of these frames is final and ends the event.
pub record EndsEvent (frames : List Frame) (event : MeantEvent) : Type 0 where
  pub before : List Frame
  pub frame : Frame
  pub last : frames ≡ before ++ frame ∷ []
  pub final : frame.fin ≡ true
  pub ended : event ≡ event_at before frame

-- The event is lawful, is the next of the meaning after those given, and comes at the frame that ends it, after which at
-- most `chunk_size` bytes came. The source has its offset and the number of its frames. Of a message that is open after
-- that frame the source holds all that came, which is within the limit.
pub record IsGiven {A : Type 0} (role : Role) (limits : Limits) (reading : SourceState A) (came : List ℕ)
    (given : List MeantEvent) (event : Event A) : Type 0 where
  pub lawful : IsLawfulEvent (meant event)
  pub frames : List Frame
  pub are_lawful : IsLawful role limits frames
  pub rest : List ℕ
  pub whole : came ≡ stream frames ++ rest
  pub soon : length rest ≤ chunk_size
  pub ends : EndsEvent frames (meant event)
  pub offset : offset_of reading ≡ event_offset ends.before ends.frame
  pub count : frames_of reading ≡ event_frames ends.before ends.frame
  pub last : given ++ meant event ∷ [] ≡ meaning frames
  pub first : AreFirstOf role limits (take limits.input came) (given ++ meant event ∷ [])
  pub held : held_of reading ≡ length (payload_of (unfinished frames))
  pub within : held_of reading ≤ limits.message

-- The result of a call of `next` is right for the bytes that came.
abbrev pub IsNextEvent : {A : Type 0} → Role → Limits → Incoming → SourceState A → List ℕ → List MeantEvent →
    Result (Next A) Stop → Type 0
IsNextEvent role limits new reading came given (Ok (nexts.Event event)) =
    HasGiven role limits reading came (given ++ meant event ∷ []) × IsGiven role limits reading came given event
    × (new.failed ≡ false)
IsNextEvent role limits new reading came given (Ok (nexts.Done verdict)) =
    IsLast role limits new came given (Ok verdict) × (answered reading ≡ Some (Ok verdict)) × (held_of reading ≡ 0)
IsNextEvent role limits new reading came given (Err halted) =
    IsLast role limits new came given (Err halted) × (answered reading ≡ Some (Err halted)) × (held_of reading ≡ 0)

-- A call has read these bytes more, and its result is right for all that came: at most one byte past the limit.
pub record ReadsNextEvent {A : Type 0} (role : Role) (limits : Limits) (old new : Incoming) (reading : SourceState A)
    (came : List ℕ) (given : List MeantEvent) (result : Result (Next A) Stop) : Type 0 where
  pub more : List ℕ
  pub consumed : IsConsumed old new more
  pub few : length (came ++ more) ≤ limits.input + 1
  pub next : IsNextEvent role limits new reading (came ++ more) given result
