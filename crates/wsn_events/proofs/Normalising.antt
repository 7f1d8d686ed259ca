-- A stream's events, written one after the other: what was written at each answer.
use Rattle.std.proofs.Common.{◌≡◌, ℕ, ◌+◌, Result, Ok, Err, false, List, [], ◌∷◌, ◌++◌, take, sym, ap, ◌∙◌, subst, append_assoc, append-nil, arith}
use Rattle.std.proofs.KnownBytes.{Appends-nil, Appends-trans}
use Rattle.wsn_io.proofs.Received.{received_none, received_on}
use Rattle.std.specs.Io.KnownBytes.{Appends}
use Rattle.wsn_wire.specs.declared.endpoint.Role.{Role}
use Rattle.wsn_wire.specs.Frame.{Frame, frame_bytes, stream}
use Rattle.wsn_io.specs.Transfer.{Incoming, Outgoing, IsReceived, IsWritten, IsPartlyWritten}
use Rattle.wsn_rules.specs.declared.verdict.Verdict.{Verdict}
use Rattle.wsn_io.specs.declared.stop.Stop.{Stop}
use Rattle.wsn_io.specs.declared.stop.Stop.TheVariants as stop
use Rattle.wsn_rules.specs.Lawful.{IsLawful}
use Rattle.wsn_rules.specs.Limits.{Limits}
use Rattle.wsn_rules.specs.Meaning.{MeantEvent, meaning}
use Rattle.wsn_io.proofs.PutTexts.{front_of_more}
use Rattle.wsn_events.specs.declared.event.Event.{Event}
use Rattle.wsn_events.specs.declared.source.Next.{Next}
use Rattle.wsn_events.specs.declared.source.Next.TheVariants as nexts
use Rattle.wsn_rules.specs.LawfulEvents.{IsLawfulEvent}
use Rattle.wsn_events.specs.EventsMeant.{meant}
use Rattle.wsn_rules.specs.NormalForm.{normal_frame, normal_form}
use Rattle.wsn_scan.proofs.EventRuns.{normal_form-append, normal_form_push}
use Rattle.wsn_events.specs.Normalised.{IsNormalised, IsNormalFormWritten}
use Rattle.wsn_events.specs.SourceStates.{SourceState, HasGiven, ReadsNextEvent, IsGiven}
use Rattle.wsn_events.specs.Sources.{AreFirstOf, IsLast, IsMeaningOf}
use Rattle.wsn_events.proofs.GivenSoFar.{before_given}

-- The source has read all that came, and the normal form of the events that it gave was written.
pub record HasWritten {A : Type 0} (role : Role) (limits : Limits) (old new : Incoming) (before after : Outgoing) (source : SourceState A) : Type 0 where
  pub came : List ℕ
  pub given : List MeantEvent
  pub has : HasGiven role limits source came given
  pub received : IsReceived (limits.input + 1) old new came
  pub out : Appends before.written after.written (normal_form role given)
  pub readable : new.failed ≡ false
  pub writable : after.failed ≡ false

module _ {A : Type 0} (role : Role) (limits : Limits) (old : Incoming) (before : Outgoing) where
  -- nothing has come yet
  pub begins : (source : SourceState A) → HasGiven role limits source [] [] → old.failed ≡ false → before.failed ≡ false → HasWritten role limits old old before before source
  begins source has readable writable = grind (arith, received_none, Appends-nil)

  -- a call changes nothing of what was read and given
  pub as_before : (new : Incoming) (after : Outgoing) (source next : SourceState A) → HasWritten role limits old new before after source
      → ((came : List ℕ) (given : List MeantEvent) → HasGiven role limits source came given → HasGiven role limits next came given) → HasWritten role limits old new before after next
  as_before new after source next written same = record { came = written.came; given = written.given; has = same written.came written.given written.has; received = written.received; out = written.out; readable = written.readable; writable = written.writable }

  -- the source's next answer
  module _ (mid new : Incoming) (after : Outgoing) (source next : SourceState A) (written : HasWritten role limits old mid before after source) where
    pub received : (result : Result (Next A) Stop) (on : ReadsNextEvent role limits mid new next written.came written.given result) → IsReceived (limits.input + 1) old new (written.came ++ on.more)
    received result on = received_on (limits.input + 1) old mid new written.came on.more written.received on.consumed on.few

    -- the verdict
    pub is_done : (answer : Next A) (verdict : Verdict) → answer ≡ nexts.Done verdict → ReadsNextEvent role limits mid new next written.came written.given (Ok answer) → IsNormalised role limits old new before after (Ok verdict)
    is_done answer verdict is goes = record {
      came = written.came ++ on.more;
      received = received (Ok (nexts.Done verdict)) on;
      written = (written.given, on.next.0, (written.writable, written.out));
    }
      where
        on : ReadsNextEvent role limits mid new next written.came written.given (Ok (nexts.Done verdict))
        on = subst (λ (n : Next A). ReadsNextEvent role limits mid new next written.came written.given (Ok n)) is goes

    -- a stop
    pub is_stopped : (stopped : Stop) → ReadsNextEvent role limits mid new next written.came written.given (Err stopped) → IsNormalised role limits old new before after (Err stopped)
    is_stopped stopped on = record {
      came = written.came ++ on.more;
      received = received (Err stopped) on;
      written = of stopped on.next.0;
    }
      where
        of : (s : Stop) → IsLast role limits new (written.came ++ on.more) written.given (Err s) → IsNormalFormWritten role limits new (written.came ++ on.more) before after (Err s)
        of s last = grind arith

    -- an event, which is written
    module _ (answer : Next A) (event : Event A) (is : answer ≡ nexts.Event event) (goes : ReadsNextEvent role limits mid new next written.came written.given (Ok answer)) where
      abbrev on : ReadsNextEvent role limits mid new next written.came written.given (Ok (nexts.Event event))
      on = subst (λ (n : Next A). ReadsNextEvent role limits mid new next written.came written.given (Ok n)) is goes

      pub is_lawful_event : IsLawfulEvent (meant event)
      is_lawful_event = on.next.1.lawful

      unfoldable pub goes_on : (last : Outgoing) → IsWritten after last (frame_bytes (normal_frame role (meant event))) → HasWritten role limits old new before last next
      goes_on last (writable, out) = record {
        came = written.came ++ on.more;
        given = written.given ++ meant event ∷ [];
        has = on.next.0;
        received = received (Ok (nexts.Event event)) on;
        out = subst (λ (bs : List ℕ). Appends before.written last.written bs) (sym (normal_form_push role written.given (meant event)))
            (Appends-trans before.written after.written last.written (normal_form role written.given) (frame_bytes (normal_frame role (meant event))) written.out out);
        readable = on.next.2;
        writable = writable;
      }

      -- or a write failed in the normal form of the event and of those after it
      pub is_failed : (last : Outgoing) (events : List MeantEvent) → AreFirstOf role limits (take limits.input (written.came ++ on.more)) ((written.given ++ meant event ∷ []) ++ events)
          → IsPartlyWritten after last (normal_form role (meant event ∷ events)) → IsNormalised role limits old new before last (Err stop.Write)
      is_failed last events first (failed, (k, out)) = record {
        came = written.came ++ on.more;
        received = received (Ok (nexts.Event event)) on;
        written = (
          on.next.2,
          record {
            frames = gives.ends.before;
            frame = gives.ends.frame;
            lawful = subst (λ (fs : List Frame). IsLawful role limits fs) gives.ends.last gives.are_lawful;
            final = gives.ends.final;
            rest = gives.rest;
            whole = gives.whole ∙ ap (λ (fs : List Frame). stream fs ++ gives.rest) gives.ends.last;
            soon = gives.soon;
            between = after;
            written = (written.writable, subst (λ (es : List MeantEvent). Appends before.written after.written (normal_form role es)) given_is written.out);
            verdict = first.0;
            later = (meant event ∷ events) ++ first.1;
            means = subst (λ (es : List MeantEvent). IsMeaningOf role limits (take limits.input (written.came ++ on.more)) first.0 es) all_are first.2;
            partly = (
              failed,
              (
                front.0,
                subst (λ (bs : List ℕ). Appends after.written last.written bs)
                    (sym front.1 ∙ ap (λ (bs : List ℕ). take front.0 bs) (sym (normal_form-append role (meant event ∷ events) first.1))) out,
              ),
            );
          },
        );
      }
        where
          gives : IsGiven role limits next (written.came ++ on.more) written.given event
          gives = on.next.1

          given_is : written.given ≡ meaning gives.ends.before
          given_is = before_given written.given (meant event) gives.ends.before gives.ends.frame gives.ends.final (gives.last ∙ ap meaning gives.ends.last)

          all_are : ((written.given ++ meant event ∷ []) ++ events) ++ first.1 ≡ meaning gives.ends.before ++ ((meant event ∷ events) ++ first.1)
          all_are =
              ap (λ (es : List MeantEvent). es ++ first.1) (append_assoc written.given (meant event ∷ []) events) ∙ append_assoc written.given (meant event ∷ events) first.1
              ∙ ap (λ (es : List MeantEvent). es ++ ((meant event ∷ events) ++ first.1)) given_is

          front : (j : ℕ) × (take j (normal_form role (meant event ∷ events) ++ normal_form role first.1) ≡ take k (normal_form role (meant event ∷ events)))
          front = front_of_more k (normal_form role (meant event ∷ events)) (normal_form role first.1)

      -- in that of the event alone
      pub write_failed : (last : Outgoing) → IsPartlyWritten after last (frame_bytes (normal_frame role (meant event)))
          → IsNormalised role limits old new before last (Err stop.Write)
      write_failed last part =
          is_failed last [] (subst (λ (es : List MeantEvent). AreFirstOf role limits (take limits.input (written.came ++ on.more)) es) (sym (append-nil (written.given ++ meant event ∷ []))) on.next.1.first)
          (subst (λ (bs : List ℕ). IsPartlyWritten after last bs) (sym (append-nil (frame_bytes (normal_frame role (meant event))))) part)
