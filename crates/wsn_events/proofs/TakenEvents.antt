-- The events that a source takes at once, and what is written of them.
use Rattle.std.proofs.Common.{◌≡◌, ℕ, ◌+◌, Bool, true, false, Ok, Err, List, ◌++◌, length, take, sym, subst, append-nil, refl, arith}
use Rattle.std.proofs.KnownBytes.{Appends-nil, Appends-trans}
use Rattle.std.proofs.Math.Seq.{take-append-add}
use Rattle.std.specs.Io.KnownBytes.{Appends}
use Rattle.wsn_wire.specs.declared.endpoint.Role.{Role}
use Rattle.wsn_wire.specs.Frame.{frame_bytes}
use Rattle.wsn_io.specs.Transfer.{Incoming, Outgoing, IsWritten}
use Rattle.wsn_io.specs.declared.stop.Stop.{Stop}
use Rattle.wsn_io.specs.declared.stop.Stop.TheVariants as stop
use Rattle.wsn_rules.specs.Limits.{Limits}
use Rattle.wsn_rules.specs.Meaning.{MeantEvent}
use Rattle.wsn_rules.specs.NormalForm.{normal_form, normal_frame}
use Rattle.wsn_scan.specs.declared.frame_reader.FrameReader.{FrameReader}
use Rattle.wsn_scan.specs.FrameReaders.{TakesRun}
use Rattle.wsn_scan.proofs.EventRuns.{normal_form-append}
use Rattle.wsn_scan.proofs.ReaderReports.{reported_of}
use Rattle.wsn_events.specs.declared.event.Event.{Event}
use Rattle.wsn_events.specs.declared.source.Next.{Next}
use Rattle.wsn_events.specs.declared.source.Next.TheVariants as nexts
use Rattle.wsn_events.specs.EventsMeant.{meant}
use Rattle.wsn_events.specs.SourceStates.{SourceState, HasGiven, ReadsNextEvent, IsAtWork}
use Rattle.wsn_events.specs.Normalised.{IsNormalised}
use Rattle.wsn_events.specs.LentMessages.{TakesEventsAfter, PutsTaken}
use Rattle.wsn_events.proofs.GivenSoFar.{begun_sound, given_first}
use Rattle.wsn_events.proofs.Normalising.{HasWritten, goes_on, is_failed}

-- the source with its reader after the call
abbrev pub read_on : {A : Type 0} → SourceState A → FrameReader → SourceState A
read_on reading reader = record { reader = reader; reassembly = reading.reassembly; answer = reading.answer }

pub takes_after : {A : Type 0} (role : Role) (limits : Limits) (reading : SourceState A) (reader : FrameReader) (came : List ℕ) (given : List MeantEvent) (has : HasGiven role limits reading came given)
    → TakesRun role limits reader came has.frames has.position → TakesEventsAfter role limits (read_on reading reader) came given
takes_after role limits reading reader came given has took = grind arith

-- a source that has taken events, or none, is at work
pub at_work_after : {A : Type 0} (old new : SourceState A) (result : Bool) → IsAtWork old
    → (result ≡ true → (role : Role) (limits : Limits) (came : List ℕ) (given : List MeantEvent) → HasGiven role limits old came given → TakesEventsAfter role limits new came given) → (result ≡ false → new ≡ old)
    → IsAtWork new
at_work_after old new true b taken none = let took = taken refl b.role b.limits b.came b.given b.has in begun_sound b.role b.limits new b.came (b.given ++ took.events) took.has
at_work_after {A} old new false b taken none = subst (λ (r : SourceState A). IsAtWork r) (sym (none refl)) b

-- ---- what is written

module _ {A : Type 0} (role : Role) (limits : Limits) (came : List ℕ) (given : List MeantEvent) (before : Outgoing) where
  pub puts_none : (source : SourceState A) → before.failed ≡ false → HasGiven role limits source came given → PutsTaken role limits source came given before before (Ok tt)
  puts_none source writable has = grind (arith, append-nil, Appends-nil)

module _ {A : Type 0} (role : Role) (limits : Limits) (old mid : Incoming) (before after : Outgoing) (source next : SourceState A) (written : HasWritten role limits old mid before after source) where
  -- the events taken were written
  pub taken_written : (last : Outgoing) → PutsTaken role limits next written.came written.given after last (Ok tt) → HasWritten role limits old mid before last next
  taken_written last puts = record {
    came = written.came;
    given = written.given ++ puts.events;
    has = puts.has;
    received = written.received;
    out = subst (λ (bs : List ℕ). Appends before.written last.written bs) (sym (normal_form-append role written.given puts.events))
        (Appends-trans before.written after.written last.written (normal_form role written.given) (normal_form role puts.events) written.out puts.written.1);
    readable = written.readable;
    writable = puts.written.0;
  }

-- A write failed in the normal form of the events taken, after that of the event before them.
pub taken_failed : {A : Type 0} (role : Role) (limits : Limits) (old : Incoming) (before : Outgoing) (mid new : Incoming) (after : Outgoing) (source next : SourceState A) (written : HasWritten role limits old mid before after source)
    (answer : Next A) (event : Event A) (is : answer ≡ nexts.Event event) (goes : ReadsNextEvent role limits mid new next written.came written.given (Ok answer)) (put : Outgoing)
    (wrote : IsWritten after put (frame_bytes (normal_frame role (meant event)))) (last : Outgoing) (taken : SourceState A) (stopped : Stop)
    → PutsTaken role limits taken (goes_on role limits old before mid new after source next written answer event is goes put wrote).came (goes_on role limits old before mid new after source next written answer event is goes put wrote).given put last (Err stopped)
    → IsNormalised role limits old new before last (Err stop.Write)
unfolding goes_on
taken_failed role limits old before mid new after source next written answer event is goes put wrote last taken stopped puts =
    is_failed role limits old before mid new after source next written answer event is goes last puts.events
    (given_first role limits now.came puts.has.frames puts.has.position (reported_of role limits taken.reader now.came puts.has.frames puts.has.position puts.has.has_taken) (now.given ++ puts.events) puts.has.events) (
      puts.written.1.0,
      (
        length frame + k,
        subst (λ (bs : List ℕ). Appends after.written last.written bs) (sym (take-append-add frame (normal_form role puts.events) k))
            (Appends-trans after.written put.written last.written frame (take k (normal_form role puts.events)) wrote.1 puts.written.1.1.1),
      ),
    )
  where
    now : HasWritten role limits old new before put next
    now = goes_on role limits old before mid new after source next written answer event is goes put wrote

    frame : List ℕ
    frame = frame_bytes (normal_frame role (meant event))

    k : ℕ
    k = puts.written.1.1.0
