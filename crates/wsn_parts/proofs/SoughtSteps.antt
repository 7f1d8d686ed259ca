-- What one call of the scan says of the event that begins at an offset.
use Rattle.std.proofs.Common.{◌≡◌, ℕ, ◌+◌, ◌≤◌, ◌^◌, ◌⊎◌, Bool, true, false, not, Option, None, Some, Result, Ok, Err, List, [], ◌∷◌, ◌++◌, length, take, drop, inl, inr, refl, sym, ap, ◌∙◌, subst, append-nil, append_assoc, arith, length-append, take-append-drop, ◌-◌}
use Rattle.std.proofs.KnownBytes.{Appends-trans}
use Rattle.std.proofs.lemmas.Bool.{cases_Bool, cond-true, cond-false}
use Rattle.std.proofs.lemmas.List.{take_all, take-append-le, drop_at}
use Rattle.wsn_io.specs.Transfer.{Outgoing, IsWritten, IsPartlyWritten, IsWrittenBut}
use Rattle.wsn_io.specs.declared.stop.Stop.{Stop}
use Rattle.wsn_io.proofs.PutTexts.{put_both, put_front}
use Rattle.wsn_wire.specs.declared.endpoint.Role.{Role}
use Rattle.wsn_wire.specs.declared.opcode.Op.{Op}
use Rattle.wsn_wire.specs.declared.opcode.Op.TheVariants.{Continue, Text, Binary, Close, Ping, Pong}
use Rattle.wsn_wire.specs.declared.refusal.Reason.TheVariants.{NothingToContinue, MessageOpen}
use Rattle.wsn_wire.specs.Frame.{Frame, opcode, first_byte, is_control, stream}
use Rattle.wsn_wire.proofs.FrameLemmas.{first_byte_fields}
use Rattle.wsn_frame.specs.Payloads.{unmasked_by}
use Rattle.wsn_frame.proofs.PayloadMore.{unmasked_by-joined}
use Rattle.wsn_rules.specs.declared.head_info.HeadInfo.{HeadInfo}
use Rattle.wsn_rules.specs.declared.verdict.Refusal.{Refusal}
use Rattle.wsn_rules.specs.declared.verdict.Verdict.{Verdict}
use Rattle.wsn_rules.specs.declared.verdict.Verdict.TheVariants.{Accepted, Cut, Refused}
use Rattle.wsn_rules.specs.Limits.{Limits}
use Rattle.wsn_rules.specs.Evidence.Evidence.{ByFirst}
use Rattle.wsn_rules.specs.Heads.{heads_of, info_of, IsBegun, AreHeads}
use Rattle.wsn_rules.specs.Lawful.{IsLawful}
use Rattle.wsn_rules.specs.ShownStream.{frame_so_far}
use Rattle.wsn_rules.specs.Verdict.{IsVerdict, judged_bytes}
use Rattle.wsn_rules.proofs.HeadsGoOn.{begins_longer}
use Rattle.wsn_scan.specs.declared.part.Part.{Part}
use Rattle.wsn_scan.specs.declared.part.Taken.{Taken}
use Rattle.wsn_scan.specs.declared.part.Taken.TheVariants as taken
use Rattle.wsn_scan.specs.declared.scan.Scan.{Scan}
use Rattle.wsn_scan.specs.Parts.{IsPart, unmasked_at}
use Rattle.wsn_scan.specs.Positions.{Position, BetweenFrames, InFrame, begun_at}
use Rattle.wsn_scan.specs.Scans.{HasScanned, IsReachedBy, IsRefusedThere, refusal_in}
use Rattle.wsn_scan.proofs.HeadsSoFar.{heads_reported}
use Rattle.wsn_parts.specs.declared.answer.Payload.{Payload}
use Rattle.wsn_parts.specs.declared.answer.Payload.TheVariants.{Whole, Unfinished, Inside, Head, Nothing}
use Rattle.wsn_parts.specs.declared.event_at.EventAt.{EventAt}
use Rattle.wsn_parts.specs.EventsAt.{IsWholeAt, IsRestAt, IsBegunAt, AreApart, IsInsideAt, EndsEvent}
use Rattle.wsn_scan.specs.FollowedScans.{HasFollowed, IsCall}
use Rattle.wsn_parts.specs.Following.{HasBegunAt, KeepsEventAt, MayBegin, TakesPart, own_part, is_judged, answer_without_event, ended_answer, HasSought, IsRefusedHere, IsStepOf, SeeksOn}
use Rattle.wsn_parts.specs.Payloads.{IsPartAt, IsPayloadInFront, IsPartOf}
use Rattle.wsn_scan.proofs.FollowedScans.{wire_payload_is, few, lawful_done, whole_is, rest_few, room_within, unrefused_so_far, judged_so_far, in_frame, between, reached, same_follows, reach, part_follows, refused_there, refused_begun}
use Rattle.wsn_scan.proofs.FoundHeads.{heads_after}
use Rattle.wsn_parts.proofs.EndedAnswers.{IsAnswered, answered_without, in_head, after_all}
use Rattle.wsn_parts.proofs.EndedAnswers.IsAnswered.{InHead, AfterAll}
use Rattle.wsn_parts.proofs.KeptEvents.{goes_on}
use Rattle.wsn_parts.proofs.OpenMessages.{open_or_not, offset_within}

-- ---- where the scan is

module _ (role : Role) (limits : Limits) (scan : Scan) (came : List ℕ) (done : List Frame) (position : Position) (rest : List ℕ) (h : HasFollowed role limits scan came done position rest) where
  rest_at : (p : Position) → position ≡ p → IsRestAt role limits done rest p
  rest_at BetweenFrames is = elim (between role limits scan came done position rest h is) [ inl closed ↦ inl closed | inr none ↦ inr none.1 ]
  rest_at (InFrame info payload) is = let b = in_frame role limits scan came done position rest h info payload is in (b.no_close, (b.begins, b.payload_is))

  all_judged : (v : Verdict) → IsVerdict role limits came done v → judged_bytes v came ≡ came
  all_judged (Accepted s) is = refl
  all_judged (Cut s) is = refl
  all_judged (Refused r) is = absurd (unrefused_so_far role limits scan came done position rest h done r.offset r.reason is)

  pub apart : (v : Verdict) → IsVerdict role limits came done v → AreApart role limits came v done position
  apart v is = record {
    is_verdict = is;
    is_rest = subst (λ (bs : List ℕ). IsRestAt role limits done bs position)
        (sym (ap (λ (bs : List ℕ). drop (length (stream done)) bs) (all_judged v is ∙ whole_is role limits scan came done position rest h) ∙ drop_at (stream done) rest (length (stream done)) refl))
        (rest_at position refl);
  }

  -- a frame that has begun may begin there
  pub begun_may : (info : HeadInfo) (payload : List ℕ) → position ≡ InFrame info payload → MayBegin done info
  begun_may info payload is =
      let b = (in_frame role limits scan came done position rest h info payload is).begins in
      let first = first_byte info.fin info.op in
      let field = (first_byte_fields info.fin info.op).opcode_is in
      let most = few role limits scan came done position rest h in
      let size = rest_few role limits scan came done position rest h in
      let offset = b.offset in
      record {
        continues = λ op none. b.has_no_evidence.none (first ∷ []) _ NothingToContinue b.encoded (ByFirst first refl (field ∙ ap opcode op, none));
        begins = λ op. elim (open_or_not done) [
          | inl none ↦ none
          | inr some ↦ absurd (b.has_no_evidence.none (first ∷ []) _ MessageOpen b.encoded (ByFirst first refl (elim op [ inl text ↦ inl (field ∙ ap opcode text) | inr binary ↦ inr (field ∙ ap opcode binary) ], some)))
        ];
        offset = b.offset;
        few = omega (arith, most, size, offset);
        size = b.size;
        key = b.key;
      }

-- ---- what has come

pub part_of : (role : Role) (limits : Limits) (at : ℕ) (scan : Scan) (kept : EventAt) (came : List ℕ) (first now : Outgoing) (h : HasSought role limits at scan kept came first now) (v : Verdict) → IsVerdict role limits came h.frames v
    → IsPartAt role limits came v at h.payload
part_of role limits at scan kept came first now h v is = by kept.begun h.keeps.begun
  where
    by : (b : Bool) → HasBegunAt b h.frames h.position at h.payload → IsPartAt role limits came v at h.payload
    by true has = inl (record { frames = h.frames; position = h.position; are_apart = apart role limits scan came h.frames h.position h.rest h.followed v is; is_begun = has })
    by false has = inr (record { frames = h.frames; position = h.position; are_apart = apart role limits scan came h.frames h.position h.rest h.followed v is; end = has.0 }, has.1)

-- it was written, and then a prefix of more
before_chunk : (role : Role) (limits : Limits) (at : ℕ) (scan : Scan) (kept : EventAt) (came chunk : List ℕ) (first now after : Outgoing) (h : HasSought role limits at scan kept came first now) (more : List ℕ) → IsPartlyWritten now after more
    → IsWrittenBut (length chunk) (IsPartOf role limits at) (came ++ chunk) first after
before_chunk role limits at scan kept came chunk first now after h more (failed, (k, put)) =
    let v = judged_so_far role limits scan came h.frames h.position h.rest h.followed in
    record {
      done = came;
      last = chunk;
      whole = refl;
      short = omega arith;
      written = (h.payload, take k more, (v.0, part_of role limits at scan kept came first now h v.0 v.1), Appends-trans first.written now.written after.written h.payload (take k more) h.written.1 put);
    }

-- a whole lawful frame may begin there
pub whole_may : (role : Role) (limits : Limits) (done : List Frame) (f : Frame) → IsLawful role limits (done ++ f ∷ []) → length (stream done) ≤ 2 ^ 40 → MayBegin done (info_of (length (stream done)) f)
whole_may role limits done f lawful few_bytes =
    let law = lawful.each done [] f refl in
    let can = law.frame.encoded.encodable in
    record {
      continues = λ op. (law.group (data_of f.op (inl op))).continues.0 op;
      begins = λ op. elim (open_or_not done) [
        | inl none ↦ none
        | inr some ↦ absurd (differs op ((law.group (data_of f.op (inr op))).continues.1 some))
      ];
      offset = refl;
      few = few_bytes;
      size = can.size;
      key = can.key;
    }
  where
    data_of : (op : Op) → (op ≡ Continue) ⊎ ((op ≡ Text) ⊎ (op ≡ Binary)) → not (is_control op) ≡ true
    data_of Continue is = refl
    data_of Text is = refl
    data_of Binary is = refl
    data_of Close (inl is) = cc
    data_of Close (inr (inl is)) = cc
    data_of Close (inr (inr is)) = cc
    data_of Ping (inl is) = cc
    data_of Ping (inr (inl is)) = cc
    data_of Ping (inr (inr is)) = cc
    data_of Pong (inl is) = cc
    data_of Pong (inr (inl is)) = cc
    data_of Pong (inr (inr is)) = cc

    differs : (f.op ≡ Text) ⊎ (f.op ≡ Binary) → f.op ≡ Continue → ⊥
    differs (inl text) is = let both : Text ≡ Continue = sym text ∙ is in cc
    differs (inr binary) is = let both : Binary ≡ Continue = sym binary ∙ is in cc

-- The position with the offending byte and those before it.
abbrev pub with_evidence : Position → List ℕ → Position
with_evidence BetweenFrames bytes = BetweenFrames
with_evidence (InFrame info payload) bytes = InFrame info (payload ++ bytes)

-- ---- a call

module _ (role : Role) (limits : Limits) (at : ℕ) (old new : Scan) (chunk after : List ℕ) (n : ℕ) (part : Part) (came : List ℕ) (first now : Outgoing) (kept : EventAt)
    (h : HasSought role limits at old kept came first now) where
  abbrev done : List Frame
  done = h.frames

  abbrev share : List ℕ
  share = take n chunk

  -- neither a part nor a refusal
  pub quiet : (found : Taken) (call : IsCall old new chunk after n found part) → (found ≡ taken.More) ⊎ (found ≡ taken.Closed) → HasSought role limits at new kept (came ++ share) first now
  quiet taken.More call is =
      let r = (reached role limits old new chunk after n taken.More part came done h.position h.rest h.followed call).0 in
      record { frames = done; position = h.position; rest = h.rest ++ share; followed = same_follows role limits old new chunk after n taken.More part came done h.position h.rest h.followed call r.found.0 r.found.1 (λ same. cc); payload = h.payload; keeps = h.keeps; written = h.written }
  quiet taken.Closed call is =
      let r = (reached role limits old new chunk after n taken.Closed part came done h.position h.rest h.followed call).0 in
      record { frames = done; position = h.position; rest = h.rest ++ share; followed = same_follows role limits old new chunk after n taken.Closed part came done h.position h.rest h.followed call r.found.0 r.found.1 (λ same. cc); payload = h.payload; keeps = h.keeps; written = h.written }
  quiet taken.Part call (inl is) = cc
  quiet taken.Part call (inr is) = cc
  quiet taken.Refused call (inl is) = cc
  quiet taken.Refused call (inr is) = cc

  -- ---- a part

  module _ (call : IsCall old new chunk after n taken.Part part) where
    abbrev r : IsReachedBy role limits new (came ++ share) (IsPart done h.position part (drop part.start (take n after)))
    r = reach role limits old new chunk after n part came done h.position h.rest h.followed call

    follows_part : HasFollowed role limits new (came ++ share) r.frames r.position r.since
    follows_part = part_follows role limits old new chunk after n part came done h.position h.rest h.followed call

    few_done : length (stream done) ≤ 2 ^ 40
    few_done =
        let most = few role limits old came done h.position h.rest h.followed in
        let size = rest_few role limits old came done h.position h.rest h.followed in
        omega (arith, most, size)

    pub may_begin : MayBegin done part.head
    may_begin = by (cases_Bool part.ends)
      where
        by : (part.ends ≡ true) ⊎ (part.ends ≡ false) → MayBegin done part.head
        by (inl ends) =
            let e = r.found.goes_on.ends ends in
            subst (MayBegin done) (sym e.1) (whole_may role limits done e.0 (subst (IsLawful role limits) e.3 (lawful_done role limits new (came ++ share) r.frames r.position r.since follows_part)) few_done)
        by (inr goes) =
            let w = r.found.goes_on.within goes in
            subst (λ (fs : List Frame). MayBegin fs part.head) w.0 (begun_may role limits new (came ++ share) r.frames r.position r.since follows_part part.head _ w.1)

    -- the frame that the part ends, if it ends one
    last_frame : (last : List Frame) × (r.frames ≡ done ++ last)
    last_frame =
        elim (cases_Bool part.ends) [
          | inl ends ↦ let e = r.found.goes_on.ends ends in (e.0 ∷ [], e.3)
          | inr goes ↦ ([], (r.found.goes_on.within goes).0 ∙ sym (append-nil done))
        ]

    heads_are : heads_of r.frames ++ begun_at r.position ≡ heads_of done ++ part.head ∷ []
    heads_are = heads_after done r.found.before part (drop part.start (take n after)) r.frames r.position r.found.goes_on

    whole_chunk : came ++ chunk ≡ (came ++ share) ++ drop n chunk
    whole_chunk = ap (λ (bs : List ℕ). came ++ bs) (sym (take-append-drop n chunk)) ∙ sym (append_assoc came share (drop n chunk))

    ends_whole : (f : Frame) (payload : List ℕ) → r.frames ≡ done ++ f ∷ [] → EndsEvent done f at payload → IsWholeAt role limits (came ++ share) at payload
    ends_whole f payload are e =
        let most = room_within role limits new (came ++ share) r.frames r.position r.since follows_part in
        let bytes = whole_is role limits new (came ++ share) r.frames r.position r.since follows_part in
        let size = ap (λ (bs : List ℕ). length bs) bytes ∙ length-append (stream r.frames) r.since in
        let short : length (stream r.frames) ≤ limits.input = omega (arith, most, size) in
        record {
          before = done;
          last = f;
          later = r.since;
          whole = bytes ∙ ap (λ (fs : List Frame). stream fs ++ r.since) are;
          within = subst (λ (fs : List Frame). length (stream fs) ≤ limits.input) are short;
          lawful = subst (IsLawful role limits) are (lawful_done role limits new (came ++ share) r.frames r.position r.since follows_part);
          ends = e;
        }

    in_front : (payload : List ℕ) → IsBegunAt r.frames r.position at payload ⊎ ((f : Frame) × (r.frames ≡ done ++ f ∷ []) × EndsEvent done f at payload) → IsPayloadInFront role limits (came ++ chunk) at payload
    in_front payload is = record {
      front = came ++ share;
      later = drop n chunk;
      whole = whole_chunk;
      within = room_within role limits new (came ++ share) r.frames r.position r.since follows_part;
      is = elim is [
        | inl begun ↦
            let v = judged_so_far role limits new (came ++ share) r.frames r.position r.since follows_part in
            inr (v.0, record { frames = r.frames; position = r.position; are_apart = apart role limits new (came ++ share) r.frames r.position r.since follows_part v.0 v.1; is_begun = begun })
        | inr e ↦ inl (ends_whole e.0 payload e.1 e.2)
      ];
    }

    pub part_step : (kept_after : EventAt) (out : Outgoing) (result : Result (Option Payload) Stop) → TakesPart kept_after at done part.head r.frames r.position h.payload now out result
        → (given : Result (ℕ × Option Payload) Stop) → IsStepOf n result given → SeeksOn role limits at new kept_after came chunk first out given
    part_step kept_after out (Ok None) t given is =
        subst (SeeksOn role limits at new kept_after came chunk first out) (sym is)
        (record { frames = r.frames; position = r.position; rest = r.since; followed = follows_part; payload = h.payload ++ t.0; keeps = t.1; written = put_both first now out h.payload t.0 h.written t.2 })
    part_step kept_after out (Ok (Some Whole)) t given is =
        subst (SeeksOn role limits at new kept_after came chunk first out) (sym is)
        (room_within role limits new (came ++ share) r.frames r.position r.since follows_part, (h.payload ++ t.0, ends_whole t.1 (h.payload ++ t.0) t.2 t.3, put_both first now out h.payload t.0 h.written t.4))
    part_step kept_after out (Ok (Some (Inside start))) t given is =
        let nothing : IsWritten first out [] = subst (IsWritten first out) t.1 (subst (λ (o : Outgoing). IsWritten first o h.payload) (sym t.2) h.written) in
        let most = room_within role limits new (came ++ share) r.frames r.position r.since follows_part in
        let heads = subst (AreHeads role limits (came ++ share) (done ++ last_frame.0)) heads_are
        (subst (λ (fs : List Frame). AreHeads role limits (came ++ share) fs (heads_of r.frames ++ begun_at r.position)) last_frame.1 (heads_reported role limits new (came ++ share) r.since r.frames r.position follows_part.has_scanned)) in
        let there : IsInsideAt role limits (came ++ share) at start = record {
          front = came ++ share;
          later = [];
          whole = sym (append-nil (came ++ share));
          within = most;
          before = done;
          last = last_frame.0;
          info = part.head;
          are_heads = heads;
          elsewhere = t.0;
        } in
        subst (SeeksOn role limits at new kept_after came chunk first out) (sym is) (most, (there, nothing))
    part_step kept_after out (Ok (Some (Unfinished v))) t given is = absurd t
    part_step kept_after out (Ok (Some (Head start v))) t given is = absurd t
    part_step kept_after out (Ok (Some (Nothing v))) t given is = absurd t
    part_step kept_after out (Err stopped) t given is =
        subst (SeeksOn role limits at new kept_after came chunk first out) (sym is) (
          t.0,
          (h.payload ++ t.1.0, in_front (h.payload ++ t.1.0) t.1.2, put_front first now out h.payload t.1.0 h.written t.1.1),
          before_chunk role limits at old kept came chunk first now out h t.1.0 t.1.1,
        )

  -- ---- a refusal

  module _ (refusal : Refusal) (is : refusal_in new ≡ Some refusal) (call : IsCall old new chunk after n taken.Refused part) where
    abbrev longer : List ℕ
    longer = h.rest ++ share

    abbrev evidence : List ℕ
    evidence = take n after

    reaches : (scanned : HasScanned role limits new (came ++ share) done longer h.position) × IsRefusedThere role limits refusal (came ++ share) done h.position
    reaches = refused_there role limits old new chunk after n part came done h.position h.rest h.followed refusal is call

    begun : IsBegun role limits done longer (begun_at h.position)
    begun = refused_begun role limits old new chunk after n part came done h.position h.rest h.followed refusal is call

    unmasked : evidence ≡ unmasked_at h.position share
    unmasked = call.refused refl role limits came h.rest done h.position h.followed.has_scanned

    rest_is_at : (p : Position) → h.position ≡ p → IsBegun role limits done longer (begun_at p) → IsRestAt role limits done longer (with_evidence p evidence)
    unfolding begins_longer
    rest_is_at BetweenFrames here (inl closed) = inl closed.1
    rest_is_at BetweenFrames here (inr (inl nothing)) = inr nothing.2
    rest_is_at BetweenFrames here (inr (inr some)) = let both : some.1.0 ∷ [] ≡ [] = sym some.1.1 in absurd cc
    rest_is_at (InFrame info payload) here any =
        let own = in_frame role limits old came done h.position h.rest h.followed info payload here in
        let b = begins_longer role limits done h.rest share info own.begins in
        let following = own.begins.following in
        let size = own.size in
        let same : evidence ≡ unmasked_by info.key (length following) share = unmasked ∙ ap (λ (p : Position). unmasked_at p share) here ∙ ap (λ (m : ℕ). unmasked_by info.key m share) (sym size) in (
          own.no_close,
          (
            b,
            (λ i. (own.payload_is ∙ wire_payload_is info.key following) i ++ same i) ∙ sym (unmasked_by-joined info.key following share) ∙ sym (wire_payload_is info.key (following ++ share)),
          ),
        )

    offset_is : refusal.offset + 1 ≡ length (came ++ share)
    offset_is = reaches.1.offset

    refused_apart : (later : List ℕ) → AreApart role limits ((came ++ share) ++ later) (Refused refusal) done (with_evidence h.position evidence)
    refused_apart later =
        let front : take (refusal.offset + 1) ((came ++ share) ++ later) ≡ came ++ share =
        take-append-le (refusal.offset + 1) (came ++ share) later (omega (arith, offset_is)) ∙ take_all (refusal.offset + 1) (came ++ share) (omega (arith, offset_is)) in
        let seen : drop (length (stream done)) (take (refusal.offset + 1) ((came ++ share) ++ later)) ≡ longer =
        ap (λ (bs : List ℕ). drop (length (stream done)) bs) (front ∙ reaches.0.has_consumed.whole) ∙ drop_at (stream done) longer (length (stream done)) refl in
        record {
          is_verdict = reaches.1.refused later;
          is_rest = subst (λ (bs : List ℕ). IsRestAt role limits done bs (with_evidence h.position evidence)) (sym seen) (rest_is_at h.position refl begun);
        }

    -- what is kept with the evidence
    abbrev text : List ℕ
    text = h.payload ++ own_part kept evidence

    with_it : (p : Position) → h.position ≡ p → KeepsEventAt kept at done p h.payload → KeepsEventAt kept at done (with_evidence p evidence) text
    with_it BetweenFrames here k = subst (KeepsEventAt kept at done BetweenFrames) (sym (ap (λ (bs : List ℕ). h.payload ++ bs) (cond-false kept.own evidence [] k.frame.1) ∙ append-nil h.payload)) k
    with_it (InFrame info payload) here k =
        goes_on kept at done info payload evidence h.payload (in_frame role limits old came done h.position h.rest h.followed info payload here).begins.offset k

    kept_here : KeepsEventAt kept at done (with_evidence h.position evidence) text
    kept_here = with_it h.position refl h.keeps

    here_refused : IsRefusedHere role limits (came ++ share) (Refused refusal)
    here_refused = record { refusal = refusal; is = refl; frames = done; refused = reaches.1.refused; offset = offset_is }

    most_refused : length (came ++ share) ≤ limits.input
    most_refused = let room = reaches.0.has_consumed.room in omega (arith, room)

    pub refused_step : (out : Outgoing) → IsWritten now out (own_part kept evidence) → (answer : Payload) → answer ≡ ended_answer kept (Refused refusal)
        → SeeksOn role limits at new kept came chunk first out (Ok (n, Some answer))
    refused_step out written answer answer_is = by kept.begun refl kept_here.begun
      where
        all : IsWritten first out text
        all = put_both first now out h.payload (own_part kept evidence) h.written written

        by : (b : Bool) → kept.begun ≡ b → HasBegunAt b done (with_evidence h.position evidence) at text → SeeksOn role limits at new kept came chunk first out (Ok (n, Some answer))
        by true is_begun has =
            let it : answer ≡ Unfinished (Refused refusal) = answer_is ∙ cond-true kept.begun (Unfinished (Refused refusal)) (answer_without_event kept.next (is_judged (Refused refusal) kept.at) (Refused refusal)) is_begun in
            subst (λ (a : Payload). SeeksOn role limits at new kept came chunk first out (Ok (n, Some a))) (sym it)
            (most_refused, (here_refused, (text, (λ later. record { frames = done; position = with_evidence h.position evidence; are_apart = refused_apart later; is_begun = has }), all)))
        by false is_begun has = at_end (answered_without kept (Refused refusal) answer answer_is is_begun)
          where
            nothing : IsWritten first out []
            nothing = subst (IsWritten first out) has.1 all

            at_end : IsAnswered kept (Refused refusal) answer → SeeksOn role limits at new kept came chunk first out (Ok (n, Some answer))
            at_end (InHead start next judged it) =
                subst (λ (a : Payload). SeeksOn role limits at new kept came chunk first out (Ok (n, Some a))) (sym it)
                (most_refused, (here_refused, (λ later. in_head role limits ((came ++ share) ++ later) done at kept (with_evidence h.position evidence) text kept_here (Refused refusal) (refused_apart later) has.0 start next judged), nothing))
            at_end (AfterAll why it) =
                subst (λ (a : Payload). SeeksOn role limits at new kept came chunk first out (Ok (n, Some a))) (sym it)
                (most_refused, (here_refused, (λ later. after_all role limits ((came ++ share) ++ later) done at kept (with_evidence h.position evidence) text kept_here (Refused refusal) (refused_apart later) has.0 why), nothing))

    pub refused_failed : (out : Outgoing) → kept.own ≡ true → IsPartlyWritten now out (own_part kept evidence)
        → ((payload : List ℕ) × IsPayloadInFront role limits (came ++ chunk) at payload × IsPartlyWritten first out payload) × IsWrittenBut (length chunk) (IsPartOf role limits at) (came ++ chunk) first out
    refused_failed out own partly = (
      (text, in_refused, put_front first now out h.payload (own_part kept evidence) h.written partly),
      before_chunk role limits at old kept came chunk first now out h (own_part kept evidence) partly,
    )
      where
        has_begun : (p : Position) → with_evidence h.position evidence ≡ p → KeepsEventAt kept at done p text → IsBegunAt done p at text
        has_begun BetweenFrames here k = let both : true ≡ false = sym own ∙ k.frame.1 in absurd cc
        has_begun (InFrame info payload) here k = of kept.begun k.begun
          where
            offset : info.offset ≡ length (stream done)
            offset = (subst (IsRestAt role limits done longer) here (rest_is_at h.position refl begun)).1.0.offset

            of : (b : Bool) → HasBegunAt b done (InFrame info payload) at text → IsBegunAt done (InFrame info payload) at text
            of true has = has
            of false has =
                let ends = has.0 in
                let within = offset_within done (frame_so_far info payload) in
                let same = k.frame.2.0 own in
                absurd (omega (arith, ends, within, same, offset))

        in_refused : IsPayloadInFront role limits (came ++ chunk) at text
        in_refused = record {
          front = came ++ share;
          later = drop n chunk;
          whole = ap (λ (bs : List ℕ). came ++ bs) (sym (take-append-drop n chunk)) ∙ sym (append_assoc came share (drop n chunk));
          within = most_refused;
          is = inr (
            Refused refusal,
            record {
              frames = done;
              position = with_evidence h.position evidence;
              are_apart = subst (λ (bs : List ℕ). AreApart role limits bs (Refused refusal) done (with_evidence h.position evidence)) (append-nil (came ++ share)) (refused_apart []);
              is_begun = has_begun (with_evidence h.position evidence) refl kept_here;
            },
          );
        }
