-- A message that a source lends: the frame that its reader has taken, after frames that leave no message open.
use Rattle.std.specs.Prelude.{◌↔◌, ◌+◌, ◌≤◌}
use Rattle.std.proofs.Common.{◌≡◌, ◌≢◌, ℕ, true, false, not, None, Some, Ok, Err, List, [], ◌∷◌, ◌++◌, length, drop, refl, sym, ap, ◌∙◌, subst, append-nil, length-append, arith}
use Rattle.std.proofs.lemmas.Bool.{cond-false}
use Rattle.wsn_wire.specs.declared.endpoint.Role.{Role}
use Rattle.wsn_wire.specs.declared.opcode.Kind.{Kind}
use Rattle.wsn_wire.specs.declared.opcode.Op.{Op}
use Rattle.wsn_wire.specs.declared.opcode.Op.TheVariants.{Continue}
use Rattle.wsn_wire.specs.Frame.{Frame, is_control, stream}
use Rattle.wsn_io.specs.Transfer.{Incoming}
use Rattle.wsn_io.specs.declared.stop.Stop.TheVariants as stops
use Rattle.wsn_rules.specs.declared.head_info.HeadInfo.{HeadInfo}
use Rattle.wsn_rules.specs.Group.{unfinished, kind_at, payload_of}
use Rattle.wsn_rules.specs.LawfulEvents.{IsLawfulEvent}
use Rattle.wsn_rules.specs.Limits.{Limits}
use Rattle.wsn_rules.specs.Meaning.{MeantEvent, Message, event_at, meaning}
use Rattle.wsn_rules.specs.NormalForm.{op_of}
use Rattle.wsn_rules.specs.ShownStream.{event_offset, event_frames}
use Rattle.wsn_rules.proofs.Groups.{meaning_push, group_of_lawful, unfinished_final}
use Rattle.wsn_rules.proofs.LawfulLists.{law_at_split}
use Rattle.wsn_rules.proofs.LawfulMeaning.{lawful_event, event_of_data, event_of_control}
use Rattle.wsn_rules.proofs.OpenOffsets.{offset_of_none}
use Rattle.wsn_scan.specs.declared.frame_reader.FrameReader.{FrameReader}
use Rattle.wsn_scan.specs.declared.part.Part.{Part}
use Rattle.wsn_scan.specs.FrameReaders.{HasTaken, held_payload}
use Rattle.wsn_scan.specs.Positions.{Position, BetweenFrames, IsTakenOf}
use Rattle.wsn_scan.specs.Parts.{IsWholeMessage}
use Rattle.wsn_scan.specs.ReadParts.{ReadsPart}
use Rattle.wsn_scan.specs.Judging.{chunk_size}
use Rattle.wsn_scan.proofs.ReaderReports.{reported_of}
use Rattle.wsn_scan.proofs.FollowedScans.{begins_at}
use Rattle.wsn_events.specs.declared.event.Event.{Event}
use Rattle.wsn_events.specs.declared.reassembly.Reassembly.{Reassembly}
use Rattle.wsn_events.specs.declared.source.Next.TheVariants as nexts
use Rattle.wsn_events.specs.EventsMeant.{meant}
use Rattle.wsn_events.specs.SourceStates.{SourceState, HasGiven, IsGiven, IsNextEvent, answered, held_of, offset_of, frames_of}
use Rattle.wsn_events.specs.LentMessages.{LendsMessage, lent_message, held_bytes}
use Rattle.wsn_events.specs.Reassembly.{IsBetweenFrames, IsInFrame, IsPlacedAt, offset_given, frames_given}
use Rattle.wsn_events.proofs.GivenSoFar.{all_came, given_first}
use Rattle.wsn_events.proofs.ReassembledFrames.{given_of_frame, message_ended, reassembled_alike}
use Rattle.wsn_events.proofs.TakenParts.{ended_by, data_of_frame, before_frame}

-- At most a chunk came after the frames.
soon_after : (came : List ℕ) (fs : List Frame) (rest : List ℕ) → came ≡ stream fs ++ rest → length came ≤ length (stream fs) + chunk_size → length rest ≤ chunk_size
soon_after came fs rest whole soon = let sizes = ap (λ (bs : List ℕ). length bs) whole in let parts = length-append (stream fs) rest in omega (arith, soon, sizes, parts)

-- The source gives the event of this frame.
pub given_event : {A : Type 0} (role : Role) (limits : Limits) (reading : SourceState A) (came : List ℕ) (given : List MeantEvent) (event : Event A) (fs : List Frame) (frame : Frame) → IsTakenOf role limits came (fs ++ frame ∷ []) BetweenFrames
    → frame.fin ≡ true → meant event ≡ event_at fs frame → given ++ meant event ∷ [] ≡ meaning (fs ++ frame ∷ []) → IsBetweenFrames reading.reassembly (fs ++ frame ∷ []) → IsPlacedAt reading.reassembly fs frame
    → length came ≤ length (stream (fs ++ frame ∷ [])) + chunk_size → IsGiven role limits reading came given event
given_event role limits reading came given event fs frame taken final ended means between placed soon =
    let held : held_of reading ≡ length (payload_of (unfinished (fs ++ frame ∷ []))) = ap (λ (bs : List ℕ). length bs) between.message in
    record {
      lawful = subst IsLawfulEvent (sym ended) (lawful_event role limits fs frame taken.in_range taken.lawful final);
      frames = fs ++ frame ∷ [];
      are_lawful = taken.lawful;
      rest = taken.rest ++ drop limits.input came;
      whole = all_came role limits came (fs ++ frame ∷ []) BetweenFrames taken;
      soon = soon_after came (fs ++ frame ∷ []) (taken.rest ++ drop limits.input came) (all_came role limits came (fs ++ frame ∷ []) BetweenFrames taken) soon;
      ends = record { before = fs; frame = frame; last = refl; final = final; ended = ended };
      offset = placed.offset;
      count = placed.count;
      last = means;
      first = given_first role limits came (fs ++ frame ∷ []) BetweenFrames taken (given ++ meant event ∷ []) means;
      held = held;
      within = let within = (group_of_lawful role limits (fs ++ frame ∷ []) taken.lawful).size in omega (arith, held, within);
    }

of_op : (kind : Kind) (op : Op) → op ≡ op_of kind → (is_control op ≡ false) × (op ≡ Continue → ⊥)
of_op kind op is = grind arith

-- a frame that continues no message comes after no open message
none_open : (fs : List Frame) (op : Op) → ((op ≡ Continue) ↔ (unfinished fs ≢ [])) → (op ≡ Continue → ⊥) → unfinished fs ≡ []
none_open fs op continues other = by (unfinished fs) refl
  where
    by : (group : List Frame) → unfinished fs ≡ group → unfinished fs ≡ []
    by [] none = none
    by (h ∷ hs) some = absurd (other (continues.1 (λ none. let both : h ∷ hs ≡ [] = sym some ∙ none in cc)))

module _ {A : Type 0} (role : Role) (limits : Limits) (reading : SourceState A) (reader : FrameReader) (g : Reassembly A) (kind : Kind) (came : List ℕ) (given : List MeantEvent) (fs : List Frame) (frame : Frame)
    (events : given ≡ meaning fs) (going : reading.answer ≡ None) (has_taken : HasTaken role limits reader came (fs ++ frame ∷ []) BetweenFrames) (taken : IsTakenOf role limits came (fs ++ frame ∷ []) BetweenFrames)
    (final : frame.fin ≡ true) (op_is : frame.op ≡ op_of kind) (op_now : g.op ≡ op_of kind) (place_now : g.frame_offset ≡ length (stream fs)) (message_now : g.message.items ≡ payload_of (unfinished fs)) (payload_is : held_payload reader ≡ frame.payload)
    (soon : length came ≤ length (stream (fs ++ frame ∷ [])) + chunk_size) where
  abbrev new : SourceState A
  new = record { reader = reader; reassembly = g; answer = reading.answer }

  of_data : is_control frame.op ≡ false
  of_data = (of_op kind frame.op op_is).0

  none_before : unfinished fs ≡ []
  none_before =
      none_open fs frame.op ((law_at_split role limits fs frame [] taken.lawful).group (ap not of_data)).continues (of_op kind frame.op op_is).1

  kind_is : kind ≡ kind_at frame.op
  kind_is = grind arith

  event_is : lent_message new kind ≡ event_at fs frame
  event_is = grind (arith, kind_is, append-nil, none_before, event_of_data, of_data)

  means : given ++ lent_message new kind ∷ [] ≡ meaning (fs ++ frame ∷ [])
  means = grind (arith, event_is, meaning_push)

  between : IsBetweenFrames g (fs ++ frame ∷ [])
  between = message_ended g fs frame of_data final (message_now ∙ ap payload_of none_before)

  begins : g.op ≡ Continue → ⊥
  begins = (of_op kind g.op op_now).1

  offset_is : offset_of new ≡ event_offset fs frame
  offset_is = grind (arith, given_of_frame, begins, offset_of_none, none_before, cond-false, of_data)

  count_is : frames_of new ≡ event_frames fs frame
  count_is = grind (arith, given_of_frame, begins, none_before, cond-false, of_data)

  lends_frame : LendsMessage role limits new came given kind
  lends_frame = record {
    has = record { frames = fs ++ frame ∷ []; position = BetweenFrames; has_taken = has_taken; reassembly = between; events = means; going = going };
    lawful = subst IsLawfulEvent (sym event_is) (lawful_event role limits fs frame taken.in_range taken.lawful final);
    before = fs;
    frame = frame;
    are_lawful = taken.lawful;
    rest = taken.rest ++ drop limits.input came;
    whole = all_came role limits came (fs ++ frame ∷ []) BetweenFrames taken;
    soon = soon_after came (fs ++ frame ∷ []) (taken.rest ++ drop limits.input came) (all_came role limits came (fs ++ frame ∷ []) BetweenFrames taken) soon;
    final = final;
    first = events;
    ended = event_is;
    last = refl;
    between = refl;
    payload_is = payload_is;
    offset = offset_is;
    count = count_is;
  }

-- the part that came last is a whole message
pub lends_part : {A : Type 0} (role : Role) (limits : Limits) (reading : SourceState A) (reader : FrameReader) (part : Part) (now came : List ℕ) (given : List MeantEvent) (has : HasGiven role limits reading came given)
    (takes : ReadsPart role limits reader part now has.frames has.position) → IsTakenOf role limits now takes.frames takes.position → (g : Reassembly A) (kind : Kind) → IsWholeMessage part kind → g.op ≡ op_of kind → g.frame_offset ≡ length (stream has.frames) → g.message.items ≡ payload_of (unfinished has.frames)
    → LendsMessage role limits (record { reader = reader; reassembly = g; answer = reading.answer }) now given kind
lends_part role limits reading reader part now came given has takes taken g kind whole op_now place_now message_now =
    let fs = has.frames in
    let payload = held_payload reader in
    let e = ended_by role limits now fs has.position part payload takes.frames takes.position takes.is_part taken whole.ends in
    let has_taken = subst (λ (at : Position). HasTaken role limits reader now (fs ++ e.frame ∷ []) at) e.position_is (subst (λ (gs : List Frame). HasTaken role limits reader now gs takes.position) e.frames_are takes.has_taken) in
    lends_frame role limits reading reader g kind now given fs e.frame has.events has.going has_taken e.taken
    (sym (ap (λ (h : HeadInfo). h.fin) e.head_is) ∙ whole.final) (sym (ap (λ (h : HeadInfo). h.op) e.head_is) ∙ whole.op)
    op_now place_now message_now
    (sym (e.payload_is ∙ ap (λ (bs : List ℕ). bs ++ payload) ((begins_at has.position part takes.is_part.before takes.is_part.is_at whole.begins).1)))
    (subst (λ (gs : List Frame). length now ≤ length (stream gs) + chunk_size) e.frames_are (takes.soon whole.ends))

-- the same after the part's frame has begun
pub lends_begun : {A : Type 0} (role : Role) (limits : Limits) (reading : SourceState A) (reader : FrameReader) (part : Part) (now came : List ℕ) (given : List MeantEvent) (has : HasGiven role limits reading came given)
    (takes : ReadsPart role limits reader part now has.frames has.position) → IsTakenOf role limits now takes.frames takes.position → (g : Reassembly A) (kind : Kind) → IsWholeMessage part kind → IsInFrame g has.frames part.head.op takes.is_part.before
    → LendsMessage role limits (record { reader = reader; reassembly = g; answer = reading.answer }) now given kind
lends_begun role limits reading reader part now came given has takes taken g kind whole within =
    let fs = has.frames in
    let none : takes.is_part.before ≡ [] = (begins_at has.position part takes.is_part.before takes.is_part.is_at whole.begins).1 in
    lends_part role limits reading reader part now came given has takes taken g kind whole (within.op ∙ whole.op) within.offset
    (within.message (of_op kind part.head.op whole.op).0 ∙ ap (λ (bs : List ℕ). payload_of (unfinished fs) ++ bs) none ∙ append-nil (payload_of (unfinished fs)))

-- ---- a message that is lent becomes an event of its own

no_control : (kind : Kind) (text : List ℕ) (fs : List Frame) (frame : Frame) → Message kind text ≡ event_at fs frame → is_control frame.op ≡ false
no_control kind text fs frame is = grind (arith, event_of_control)

module _ {A : Type 0} (role : Role) (limits : Limits) (new : Incoming) (reading : SourceState A) (came : List ℕ) (given : List MeantEvent) (kind : Kind) (lends : LendsMessage role limits reading came given kind) (unfailed : new.failed ≡ false) where
  abbrev all_frames : List Frame
  all_frames = lends.before ++ lends.frame ∷ []

  all_taken : IsTakenOf role limits came all_frames BetweenFrames
  all_taken =
      subst (IsTakenOf role limits came all_frames) lends.between
      (subst (λ (fs : List Frame). IsTakenOf role limits came fs lends.has.position) lends.last (reported_of role limits reading.reader came lends.has.frames lends.has.position lends.has.has_taken))

  was_between : IsBetweenFrames reading.reassembly all_frames
  was_between = grind (arith, between)

  is_data : is_control lends.frame.op ≡ false
  is_data = no_control kind (held_bytes reading) lends.before lends.frame lends.ended

  nothing_held : reading.reassembly.message.items ≡ []
  nothing_held = was_between.message ∙ ap payload_of (unfinished_final lends.before lends.frame (ap not is_data) lends.final)

  module _ (g : Reassembly A) (same : g ≡ record reading.reassembly { message = g.message }) where
    abbrev after : SourceState A
    after = record { reader = reading.reader; reassembly = g; answer = reading.answer }

    pub copied : g.message.items ≡ [] → (event : Event A) → meant event ≡ Message kind (reading.reassembly.message.items ++ held_bytes reading) → IsNextEvent role limits new after came given (Ok (nexts.Event event))
    copied empty event is =
        let held : g.message.items ≡ reading.reassembly.message.items = empty ∙ sym nothing_held in
        let means : meant event ≡ lent_message reading kind = is ∙ ap (λ (bs : List ℕ). Message kind (bs ++ held_bytes reading)) nothing_held in
        let given_now : given ++ lent_message reading kind ∷ [] ≡ given ++ meant event ∷ [] = ap (λ (m : MeantEvent). given ++ m ∷ []) (sym means) in
        let has : HasGiven role limits after came (given ++ meant event ∷ []) = record {
          frames = lends.has.frames;
          position = lends.has.position;
          has_taken = lends.has.has_taken;
          reassembly = reassembled_alike reading.reassembly g same held lends.has.frames lends.has.position lends.has.reassembly;
          events = sym given_now ∙ lends.has.events;
          going = lends.has.going;
        } in (
          has,
          given_event role limits after came given event lends.before lends.frame all_taken lends.final (means ∙ lends.ended) (sym given_now ∙ lends.has.events ∙ ap meaning lends.last)
              (reassembled_alike reading.reassembly g same held all_frames BetweenFrames was_between)
              (record { offset = ap offset_given same ∙ lends.offset; count = ap frames_given same ∙ lends.count })
              (let sizes = ap (λ (bs : List ℕ). length bs) lends.whole in let parts = length-append (stream all_frames) lends.rest in omega (arith, lends.soon, sizes, parts)),
          unfailed,
        )

  -- an allocation failed for it
  pub not_copied : held_bytes reading ≢ [] → (last : SourceState A) → answered last ≡ Some (Err stops.Memory) → held_of last ≡ 0 → IsNextEvent role limits new last came given (Err stops.Memory)
  not_copied some last answer held = (
    (
      data_of_frame role limits came lends.before lends.frame all_taken is_data (λ none. some (lends.payload_is ∙ none)),
      given_first role limits came lends.before BetweenFrames (before_frame role limits came lends.before lends.frame all_taken) given lends.first,
      unfailed,
    ),
    answer,
    held,
  )
