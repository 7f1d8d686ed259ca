-- What a call of an event source reads and returns, part by part.
use Rattle.std.proofs.Common.{◌≡◌, ◌≢◌, ℕ, ◌+◌, ◌<◌, ◌≤◌, ◌^◌, Bool, true, false, cond, arith, Option, None, Some, Result, Ok, Err, List, [], ◌∷◌, ◌++◌, length, refl, sym, ap, ◌∙◌, subst, append_assoc, append-nil, length-append}
use Rattle.std.specs.Prelude.{is_some}
use Rattle.std.proofs.lemmas.List.{length-take}
use Rattle.wsn_wire.specs.declared.endpoint.Role.{Role}
use Rattle.wsn_wire.specs.declared.opcode.Kind.{Kind}
use Rattle.wsn_wire.specs.declared.opcode.Op.{Op}
use Rattle.wsn_wire.specs.Frame.{Frame, is_control, stream}
use Rattle.wsn_io.specs.Transfer.{Incoming, IsConsumed}
use Rattle.wsn_io.proofs.Received.{consumed_none, consumed_on}
use Rattle.wsn_rules.specs.declared.head_info.HeadInfo.{HeadInfo}
use Rattle.wsn_rules.specs.declared.verdict.Verdict.{Verdict}
use Rattle.wsn_rules.specs.Group.{unfinished}
use Rattle.wsn_rules.specs.Lawful.{IsLawful}
use Rattle.wsn_rules.specs.LawfulEvents.{IsLawfulControl}
use Rattle.wsn_rules.specs.Limits.{Limits}
use Rattle.wsn_rules.specs.Meaning.{MeantEvent, Message, event_at, meaning}
use Rattle.wsn_rules.proofs.Groups.{meaning_push}
use Rattle.wsn_scan.specs.declared.frame_reader.FrameReader.{FrameReader}
use Rattle.wsn_scan.specs.declared.part.Part.{Part}
use Rattle.wsn_io.specs.declared.stop.Stop.{Stop}
use Rattle.wsn_io.specs.declared.stop.Stop.TheVariants as stops
use Rattle.wsn_scan.specs.Positions.{Position, BetweenFrames, InFrame, IsTakenOf}
use Rattle.wsn_scan.specs.FrameReaders.{HasTaken, IsReading, held_payload}
use Rattle.wsn_scan.specs.Parts.{IsPartAt, IsWholeMessage}
use Rattle.wsn_scan.specs.ReadParts.{ReadsOn, ReadsPart, IsHaltedAt, IsNextPart}
use Rattle.wsn_scan.specs.Judging.{chunk_size}
use Rattle.wsn_scan.proofs.FrameEnds.{unfinished_few}
use Rattle.wsn_scan.proofs.ReaderReports.{reported_of}
use Rattle.wsn_events.specs.declared.event.Event.{Event}
use Rattle.wsn_events.specs.declared.reassembly.Reassembly.{Reassembly}
use Rattle.wsn_events.specs.declared.turn.Turn.{Turn}
use Rattle.wsn_events.specs.declared.turn.Turn.TheVariants.{Lent, Own}
use Rattle.wsn_events.specs.declared.source.Next.{Next}
use Rattle.wsn_events.specs.declared.source.Next.TheVariants as nexts
use Rattle.wsn_events.specs.declared.source.Source.TheInside.{Inside}
use Rattle.wsn_events.specs.EventsMeant.{meant}
use Rattle.wsn_events.specs.SourceStates.{SourceState, HasGiven, HasBegunOrEnded, IsAtWork, IsNextEvent, ReadsNextEvent, IsEvent, answered, held_of}
use Rattle.wsn_events.specs.LentMessages.{LendsMessage, lent_message}
use Rattle.wsn_events.specs.Turns.{IsNextTurn, TakesTurn, GivesEvent}
use Rattle.wsn_events.specs.Reassembly.{IsReassembled, IsBetweenFrames, IsInFrame, IsEventOf, IsPlacedAt}
use Rattle.wsn_events.specs.Sources.{IsHalted}
use Rattle.wsn_events.proofs.GivenSoFar.{begun_sound}
use Rattle.wsn_events.proofs.LentMessages.{lends_begun, given_event, copied, not_copied}
use Rattle.wsn_events.proofs.TakenParts.{EndsPart, place_of, ended_by, data_of_part, first_of_part}
use Rattle.wsn_events.proofs.ReassembledFrames.{lawful_body, reassembled_alike}

-- A call has read these bytes more and given no event yet, and its input hasn't failed.
pub record HasRead {A : Type 0} (role : Role) (limits : Limits) (old new : Incoming) (reading : SourceState A) (came : List ℕ) (given : List MeantEvent) : Type 0 where
  pub more : List ℕ
  pub consumed : IsConsumed old new more
  pub has : HasGiven role limits reading (came ++ more) given
  pub unfailed : new.failed ≡ false

-- a reader's stop is the source's
halted_of : (role : Role) (limits : Limits) (new : Incoming) (came : List ℕ) (fs : List Frame) (at : Position) (given : List MeantEvent) (halted : Stop) → given ≡ meaning fs → IsHaltedAt role limits new came fs at halted → IsHalted role limits new came given halted
halted_of role limits new came fact at given halted events is = grind arith

pub reading_of : {A : Type 0} (reading : SourceState A) → IsAtWork reading → IsReading reading.reader
reading_of reading b = record { role = b.role; limits = b.limits; came = b.came; frames = b.has.frames; position = b.has.position; has_taken = b.has.has_taken }

-- ---- a source's fields, once it is known not to have ended

abbrev pub state_of : {A : Type 0} → Inside A → SourceState A
state_of s = record { reader = s.reader; reassembly = s.reassembly; answer = s.answer }

not_some : (answer : Option (Result Verdict Stop)) → ((some : Result Verdict Stop) → answer ≡ Some some → ⊥) → answer ≡ None
not_some None not = refl
not_some (Some some) not = absurd (not some refl)

pub not_is_some : (answer : Option (Result Verdict Stop)) → is_some answer ≡ false → answer ≡ None
not_is_some answer not = grind arith

module _ {A : Type 0} (inside : Inside A) (source : SourceState A) (view_is : state_of inside ≡ source) where
  pub has_inside : (role : Role) (limits : Limits) (came : List ℕ) (given : List MeantEvent) → HasGiven role limits source came given → HasGiven role limits (state_of inside) came given
  has_inside role limits came given has = subst (λ (s : SourceState A). HasGiven role limits s came given) (sym view_is) has

  module _ (not : (answer : Result Verdict Stop) → inside.answer ≡ Some answer → ⊥) where
    pub going_on : answered source ≡ None
    going_on = ap answered (sym view_is) ∙ not_some inside.answer not

    pub at_work : HasBegunOrEnded (state_of inside) → IsAtWork source
    at_work begun = subst (λ (s : SourceState A). IsAtWork s) view_is (begun (not_some inside.answer not))

-- other room for the open message
pub has_still : {A : Type 0} (role : Role) (limits : Limits) (reading : SourceState A) (g : Reassembly A) (came : List ℕ) (given : List MeantEvent) → g ≡ record reading.reassembly { message = g.message } → g.message.items ≡ reading.reassembly.message.items
    → HasGiven role limits reading came given → HasGiven role limits (record { reader = reading.reader; reassembly = g; answer = reading.answer }) came given
has_still role limits reading g came given same held has = record {
  frames = has.frames;
  position = has.position;
  has_taken = has.has_taken;
  reassembly = reassembled_alike reading.reassembly g same held has.frames has.position has.reassembly;
  events = has.events;
  going = has.going;
}

module _ {A : Type 0} (role : Role) (limits : Limits) (old : Incoming) (came : List ℕ) (given : List MeantEvent) where
  pub begins : (reading : SourceState A) → old.failed ≡ false → HasGiven role limits reading came given → HasRead role limits old old reading came given
  begins reading readable has = record { more = []; consumed = consumed_none old; has = subst (λ (bs : List ℕ). HasGiven role limits reading bs given) (sym (append-nil came)) has; unfailed = readable }

  -- The reader was called once more.
  module _ (mid new : Incoming) (reading : SourceState A) (reader : FrameReader) (part : Part) (read : HasRead role limits old mid reading came given) (result : Result (Option Verdict) Stop)
      (reads : ReadsOn role limits mid new reader part (came ++ read.more) read.has.frames read.has.position result) where
    abbrev fs : List Frame
    fs = read.has.frames

    abbrev now : List ℕ
    now = (came ++ read.more) ++ reads.more

    all : now ≡ came ++ (read.more ++ reads.more)
    all = append_assoc came read.more reads.more

    consumed : IsConsumed old new (read.more ++ reads.more)
    consumed = consumed_on old mid new read.more reads.more read.consumed reads.consumed

    answers : (next : SourceState A) (turn : Result (Turn A) Stop) → IsNextTurn role limits new next now given turn → TakesTurn role limits old new next came given turn
    answers next turn is = grind (arith, consumed, all)

    found : (answer : Result (Option Verdict) Stop) → result ≡ answer → IsNextPart role limits new reader part now fs read.has.position answer
    found answer is = subst (λ (r : Result (Option Verdict) Stop). IsNextPart role limits new reader part now fs read.has.position r) is reads.next

    -- ---- the end of the call

    pub finished : (verdict : Verdict) → result ≡ Ok (Some verdict) → (last : SourceState A) → answered last ≡ Some (Ok verdict) → held_of last ≡ 0 → TakesTurn role limits old new last came given (Ok (Own (nexts.Done verdict)))
    finished verdict is last answer held = grind (arith, found, answers)

    pub stopped : (halted : Stop) → result ≡ Err halted → (last : SourceState A) → answered last ≡ Some (Err halted) → held_of last ≡ 0 → TakesTurn role limits old new last came given (Err halted)
    stopped halted is last answer held = answers last (Err halted) (halted_of role limits new now fs read.has.position given halted read.has.events (found (Err halted) is), answer, held)

    -- ---- a part of a frame

    module _ (is : result ≡ Ok None) where
      takes : ReadsPart role limits reader part now fs read.has.position
      takes = (found (Ok None) is).0

      unfailed : new.failed ≡ false
      unfailed = (found (Ok None) is).1

      taken : IsTakenOf role limits now takes.frames takes.position
      taken = reported_of role limits reader now takes.frames takes.position takes.has_taken

      few : length (unfinished fs) + 1 < 2 ^ 64
      few = grind (arith, reported_of, length-append, unfinished_few, length-take)

      -- the source after the call, with this reassembly
      abbrev moved : Reassembly A → SourceState A
      moved g = record { reader = reader; reassembly = g; answer = reading.answer }

      module _ (begun : Reassembly A)
          (begin : (before : List Frame) (at : Position) (payload : List ℕ) → length (unfinished before) + 1 < 2 ^ 64 → part.head.offset ≡ length (stream before) → IsPartAt at part payload → IsReassembled reading.reassembly before at → IsInFrame begun before part.head.op payload) where
        in_frame : IsInFrame begun fs part.head.op takes.is_part.before
        in_frame = begin fs read.has.position takes.is_part.before few (place_of role limits now fs read.has.position part (held_payload reader) takes.frames takes.position takes.is_part taken) takes.is_part.is_at read.has.reassembly

        pub lends : (kind : Kind) → IsWholeMessage part kind → TakesTurn role limits old new (moved begun) came given (Ok (Lent kind))
        lends kind whole = answers (moved begun) (Ok (Lent kind)) (lends_begun role limits reading reader part now (came ++ read.more) given read.has takes taken begun kind whole in_frame, unfailed)

        -- an allocation failed for payload of a data frame
        pub no_memory : (is_control begun.op ≡ false) × (held_payload reader ≢ []) → (last : SourceState A) → answered last ≡ Some (Err stops.Memory) → held_of last ≡ 0 → TakesTurn role limits old new last came given (Err stops.Memory)
        no_memory of_data last answer held = answers last (Err stops.Memory) (
          (
            data_of_part role limits now fs read.has.position part (held_payload reader) takes.frames takes.position takes.is_part taken (sym (ap is_control in_frame.op) ∙ of_data.0) of_data.1,
            first_of_part role limits now fs read.has.position part (held_payload reader) takes.frames takes.position takes.is_part taken given read.has.events,
            unfailed,
          ),
          answer,
          held,
        )

        module _ (longer : Reassembly A) (take_on : (before : List Frame) (op : Op) (front : List ℕ) → IsInFrame begun before op front → IsInFrame longer before op (front ++ held_payload reader)) where
          longer_in_frame : IsInFrame longer fs part.head.op (takes.is_part.before ++ held_payload reader)
          longer_in_frame = take_on fs part.head.op takes.is_part.before in_frame

          goes_on : (g : Reassembly A) (frames : List Frame) (position : Position) → (frames ≡ takes.frames) × (position ≡ takes.position) → IsReassembled g frames position → given ≡ meaning frames → HasRead role limits old new (moved g) came given
          goes_on g frames position is_now reassembly events = grind (arith, consumed, all, takes, unfailed)

          -- it doesn't end the frame
          pub within : part.ends ≡ false → HasRead role limits old new (moved longer) came given
          within more =
              let on = takes.is_part.goes_on.within more in
              goes_on longer fs (InFrame part.head (takes.is_part.before ++ held_payload reader)) (sym on.0, sym on.1) longer_in_frame read.has.events

          -- it ends the frame
          module _ (ends : part.ends ≡ true) where
            ended : EndsPart role limits now fs part (takes.is_part.before ++ held_payload reader) takes.frames takes.position
            ended = ended_by role limits now fs read.has.position part (held_payload reader) takes.frames takes.position takes.is_part taken ends

            whole : IsInFrame longer fs ended.frame.op ended.frame.payload
            whole = grind (arith, ended, takes, longer_in_frame)

            pub end_lawful : is_control longer.op ≡ true → IsLawfulControl longer.op longer.body.items
            end_lawful control = lawful_body role limits longer fs ended.frame ended.taken.lawful whole control

            module _ (g : Reassembly A) (outcome : Option (Event A))
                (end : (before : List Frame) (f : Frame) → f.fin ≡ part.head.fin → IsLawful role limits (before ++ f ∷ []) → IsInFrame longer before f.op f.payload → IsEventOf before f outcome × IsBetweenFrames g (before ++ f ∷ []) × IsPlacedAt g before f) where
              abbrev frame : Frame
              frame = ended.frame

              ends_it : IsEventOf fs frame outcome × IsBetweenFrames g (fs ++ frame ∷ []) × IsPlacedAt g fs frame
              ends_it = end fs frame (sym (ap (λ (h : HeadInfo). h.fin) ended.head_is)) ended.taken.lawful whole

              pub fragment : outcome ≡ None → HasRead role limits old new (moved g) came given
              fragment none =
                  let more : frame.fin ≡ false = subst (λ (o : Option (Event A)). IsEventOf fs frame o) none ends_it.0 in
                  goes_on g (fs ++ frame ∷ []) BetweenFrames (sym ended.frames_are, sym ended.position_is) ends_it.1
                  (read.has.events ∙ sym (append-nil (meaning fs)) ∙ ap (λ (b : Bool). meaning fs ++ cond b (event_at fs frame ∷ []) []) (sym more) ∙ sym (meaning_push fs frame))

              pub gives : (e : Event A) → outcome ≡ Some e → TakesTurn role limits old new (moved g) came given (Ok (Own (nexts.Event e)))
              gives e some =
                  let of : (frame.fin ≡ true) × (meant e ≡ event_at fs frame) = subst (λ (o : Option (Event A)). IsEventOf fs frame o) some ends_it.0 in
                  let has_taken = subst (λ (at : Position). HasTaken role limits reader now (fs ++ frame ∷ []) at) ended.position_is (subst (λ (gs : List Frame). HasTaken role limits reader now gs takes.position) ended.frames_are takes.has_taken) in
                  let soon = subst (λ (gs : List Frame). length now ≤ length (stream gs) + chunk_size) ended.frames_are (takes.soon ends) in
                  let means : given ++ meant e ∷ [] ≡ meaning (fs ++ frame ∷ []) =
                  ap (λ (es : List MeantEvent). es ++ meant e ∷ []) read.has.events ∙ ap (λ (m : MeantEvent). meaning fs ++ m ∷ []) of.1
                  ∙ ap (λ (b : Bool). meaning fs ++ cond b (event_at fs frame ∷ []) []) (sym of.0) ∙ sym (meaning_push fs frame) in
                  let has : HasGiven role limits (moved g) now (given ++ meant e ∷ []) = record { frames = fs ++ frame ∷ []; position = BetweenFrames; has_taken = has_taken; reassembly = ends_it.1; events = means; going = read.has.going } in
                  answers (moved g) (Ok (Own (nexts.Event e))) (has, given_event role limits (moved g) now given e fs frame ended.taken of.0 of.1 means ends_it.1 ends_it.2 soon, unfailed)

-- after an event the source has not ended
pub begun_after : {A : Type 0} (role : Role) (limits : Limits) (old new : Incoming) (reading : SourceState A) (came : List ℕ) (given : List MeantEvent) (result : Result (Turn A) Stop)
    → TakesTurn role limits old new reading came given result → GivesEvent result → IsAtWork reading
begun_after role limits old new reading came given (Ok (Lent kind)) on is = begun_sound role limits reading (came ++ on.more) (given ++ lent_message reading kind ∷ []) on.next.0.has
begun_after role limits old new reading came given (Ok (Own (nexts.Event event))) on is = begun_sound role limits reading (came ++ on.more) (given ++ meant event ∷ []) on.next.0
begun_after role limits old new reading came given _ on is = absurd is

pub begun_next : {A : Type 0} (role : Role) (limits : Limits) (old new : Incoming) (reading : SourceState A) (came : List ℕ) (given : List MeantEvent) (result : Result (Next A) Stop)
    → ReadsNextEvent role limits old new reading came given result → IsEvent result → IsAtWork reading
begun_next role limits old new reading came given (Ok (nexts.Event event)) on is = begun_sound role limits reading (came ++ on.more) (given ++ meant event ∷ []) on.next.0
begun_next role limits old new reading came given _ on is = absurd is

-- ---- what comes next, as an event of its own

module _ {A : Type 0} (role : Role) (limits : Limits) (old new : Incoming) (before : SourceState A) (came : List ℕ) (given : List MeantEvent) (turn : Result (Turn A) Stop) (takes : TakesTurn role limits old new before came given turn) where
  next_from : (last : SourceState A) (next : Result (Next A) Stop) → IsNextEvent role limits new last (came ++ takes.more) given next → ReadsNextEvent role limits old new last came given next
  next_from last next is = record { more = takes.more; consumed = takes.consumed; few = takes.few; next = is }

  turn_is : (t : Result (Turn A) Stop) → turn ≡ t → IsNextTurn role limits new before (came ++ takes.more) given t
  turn_is t is = subst (λ (r : Result (Turn A) Stop). IsNextTurn role limits new before (came ++ takes.more) given r) is takes.next

  -- it is one already
  pub own_next : (next : Next A) → turn ≡ Ok (Own next) → ReadsNextEvent role limits old new before came given (Ok next)
  own_next next is = next_from before (Ok next) (turn_is (Ok (Own next)) is)

  pub stops_next : (halted : Stop) → turn ≡ Err halted → ReadsNextEvent role limits old new before came given (Err halted)
  stops_next halted is = next_from before (Err halted) (turn_is (Err halted) is)

-- ---- a message that was lent, once it is copied

module _ {A : Type 0} (role : Role) (limits : Limits) (old new : Incoming) (inside : Inside A) (source : SourceState A) (view_is : state_of inside ≡ source) (came : List ℕ) (given : List MeantEvent) (turn : Result (Turn A) Stop)
    (takes : TakesTurn role limits old new source came given turn) (kind : Kind) (is : turn ≡ Ok (Lent kind)) where
  lent_inside : TakesTurn role limits old new (state_of inside) came given turn
  lent_inside = subst (λ (s : SourceState A). TakesTurn role limits old new s came given turn) (sym view_is) takes

  lends_inside : LendsMessage role limits (state_of inside) (came ++ lent_inside.more) given kind × (new.failed ≡ false)
  lends_inside = turn_is role limits old new (state_of inside) came given turn lent_inside (Ok (Lent kind)) is

  pub copied_next : (g : Reassembly A) → g ≡ record inside.reassembly { message = g.message } → g.message.items ≡ [] → (event : Event A) → meant event ≡ Message kind (inside.reassembly.message.items ++ held_payload inside.reader)
      → ReadsNextEvent role limits old new (record { reader = inside.reader; reassembly = g; answer = inside.answer }) came given (Ok (nexts.Event event))
  copied_next g same empty event means =
      next_from role limits old new (state_of inside) came given turn lent_inside (record { reader = inside.reader; reassembly = g; answer = inside.answer }) (Ok (nexts.Event event))
      (copied role limits new (state_of inside) (came ++ lent_inside.more) given kind lends_inside.0 lends_inside.1 g same empty event means)

  pub not_copied_next : held_payload inside.reader ≢ [] → (last : SourceState A) → answered last ≡ Some (Err stops.Memory) → held_of last ≡ 0 → ReadsNextEvent role limits old new last came given (Err stops.Memory)
  not_copied_next some last answer held =
      next_from role limits old new (state_of inside) came given turn lent_inside last (Err stops.Memory)
      (not_copied role limits new (state_of inside) (came ++ lent_inside.more) given kind lends_inside.0 lends_inside.1 some last answer held)
