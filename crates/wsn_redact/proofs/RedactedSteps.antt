-- What one call of the scan says of what is written.
use Rattle.std.proofs.Common.{◌≡◌, ◌≢◌, ℕ, ◌+◌, ◌-◌, ◌<◌, ◌≤◌, ◌⊎◌, true, false, not, Option, None, Some, List, [], ◌∷◌, ◌++◌, length, take, drop, inl, inr, refl, sym, ap, ◌∙◌, subst, append-nil, append_assoc, length-append, length-drop, arith, take-append-drop}
use Rattle.std.proofs.lemmas.Bool.{cases_Bool}
use Rattle.std.proofs.lemmas.List.{take_all, take-take, length-take-le}
use Rattle.wsn_wire.specs.declared.endpoint.Role.{Role}
use Rattle.wsn_wire.specs.declared.opcode.Op.{Op}
use Rattle.wsn_wire.specs.declared.opcode.Op.TheVariants.{Continue, Text, Binary, Close, Ping, Pong}
use Rattle.wsn_wire.specs.declared.refusal.Reason.TheVariants.{NothingToContinue, MessageOpen}
use Rattle.wsn_wire.specs.Frame.{Frame, opcode, first_byte, is_control, head_bytes, frame_bytes, wire_payload, stream}
use Rattle.wsn_wire.proofs.FrameLemmas.{first_byte_fields, fronts_agree, length-wire_payload}
use Rattle.wsn_frame.specs.Payloads.{unmasked_by}
use Rattle.wsn_frame.proofs.PayloadMore.{unmasked_by-joined}
use Rattle.wsn_rules.specs.declared.head_info.HeadInfo.{HeadInfo}
use Rattle.wsn_rules.specs.Limits.{Limits}
use Rattle.wsn_rules.specs.AfterClose.{HasNoClose, EndsWithClose}
use Rattle.wsn_rules.specs.Evidence.Evidence.{ByFirst}
use Rattle.wsn_rules.specs.Group.{unfinished}
use Rattle.wsn_rules.specs.Heads.{info_of, BeginsWithHead}
use Rattle.wsn_rules.specs.Lawful.{LawAt, IsLawful}
use Rattle.wsn_rules.proofs.Prefixes.{append_cancel}
use Rattle.wsn_rules.proofs.Walk.{stream_push}
use Rattle.wsn_rules.proofs.LawfulLists.{no_close_before}
use Rattle.wsn_text.specs.Utf8.{Range}
use Rattle.wsn_text.specs.Validated.{HasValidated}
use Rattle.wsn_scan.specs.declared.part.Part.{Part}
use Rattle.wsn_scan.specs.declared.part.Taken.TheVariants as taken
use Rattle.wsn_scan.specs.declared.scan.Scan.{Scan}
use Rattle.wsn_scan.specs.FollowedScans.{HasFollowed, IsCall, IsTaken}
use Rattle.wsn_scan.specs.Parts.{IsPart}
use Rattle.wsn_scan.specs.Scans.{IsReachedBy}
use Rattle.wsn_scan.specs.Positions.{Position, BetweenFrames, InFrame}
use Rattle.wsn_scan.proofs.FollowedScans.{wire_payload_is, lawful_done, rest_few, in_frame, between, size_in_frame, reached, same_follows, is_between, reach, part_taken, part_follows, begins_at, goes_on_at}
use Rattle.wsn_redact.specs.declared.redacted_payload.Redactor.{Redactor}
use Rattle.wsn_redact.specs.Dues.{due_of}
use Rattle.wsn_redact.specs.Redaction.{zeros_for, with_payload, redacted_payload, redacted_frames}
use Rattle.wsn_redact.specs.RedactedParts.{replaced, TakesPart, KeepsOpen, KeepsIn, KeepsAt, IsRestWritten, IsRedacting}
use Rattle.wsn_redact.proofs.RedactedPayloads.{zeros-append, length-redacted_payload, redacted_push}
use Rattle.wsn_redact.proofs.KeptParts.{MayBegin, payload_more, keeps_more, keeps_begun, payload_none, keeps_ended}

-- ---- where a frame may begin

some_or_none : (group : List Frame) → (group ≡ []) ⊎ (group ≢ [])
some_or_none [] = inl refl
some_or_none (f ∷ group) = inr (λ none. cc)

-- After a head that is valid so far.
pub may_begun : (role : Role) (limits : Limits) (fs : List Frame) (rest : List ℕ) (info : HeadInfo) → BeginsWithHead role limits fs rest info → MayBegin (unfinished fs) info.op
may_begun role limits fs rest info b =
    let first = first_byte info.fin info.op in
    let field = (first_byte_fields info.fin info.op).opcode_is in
    record {
      continues = λ op none. b.has_no_evidence.none (first ∷ []) _ NothingToContinue b.encoded (ByFirst first refl (field ∙ ap opcode op, none));
      begins = λ op. elim (some_or_none (unfinished fs)) [
        | inl none ↦ none
        | inr some ↦ absurd (b.has_no_evidence.none (first ∷ []) _ MessageOpen b.encoded (ByFirst first refl (elim op [ inl text ↦ inl (field ∙ ap opcode text) | inr binary ↦ inr (field ∙ ap opcode binary) ], some)))
      ];
    }

-- Of a lawful frame.
pub may_lawful : (role : Role) (limits : Limits) (fs : List Frame) (f : Frame) → LawAt role limits fs f → MayBegin (unfinished fs) f.op
may_lawful role limits fs f law = record {
  continues = λ op. (law.group (data_of f.op (inl op))).continues.0 op;
  begins = λ op. elim (some_or_none (unfinished fs)) [
    | inl none ↦ none
    | inr some ↦ absurd (differs op ((law.group (data_of f.op (inr op))).continues.1 some))
  ];
}
  where
    data_of : (op : Op) → (op ≡ Continue) ⊎ ((op ≡ Text) ⊎ (op ≡ Binary)) → not (is_control op) ≡ true
    data_of Continue is = refl
    data_of Text is = refl
    data_of Binary is = refl
    data_of Close (inl is) = cc
    data_of Close (inr (inl is)) = cc
    data_of Close (inr (inr is)) = cc
    data_of Ping (inl is) = cc
    data_of Ping (inr (inl is)) = cc
    data_of Ping (inr (inr is)) = cc
    data_of Pong (inl is) = cc
    data_of Pong (inr (inl is)) = cc
    data_of Pong (inr (inr is)) = cc

    differs : (f.op ≡ Text) ⊎ (f.op ≡ Binary) → f.op ≡ Continue → ⊥
    differs (inl text) is = let both : Text ≡ Continue = sym text ∙ is in cc
    differs (inr binary) is = let both : Binary ≡ Continue = sym binary ∙ is in cc

-- ---- what is kept

-- What is kept is the same in these fields.
pub same_kept : (old new : Redactor) (group : List Frame) (op : Op) (payload : List ℕ) → new.due ≡ old.due → new.text ≡ old.text → new.reason ≡ old.reason → KeepsIn old group op payload → KeepsIn new group op payload
same_kept old new group Close payload due text reason k = (ap due_of due ∙ k.0, subst (λ (r : Option (List Range)). HasValidated r (drop 2 payload)) (sym reason) k.1)
same_kept old new group Ping payload due text reason k = λ some. let o = k some in (text ∙ o.0, λ is. ap due_of due ∙ o.1 is)
same_kept old new group Pong payload due text reason k = λ some. let o = k some in (text ∙ o.0, λ is. ap due_of due ∙ o.1 is)
same_kept old new group _ payload due text reason k = (text ∙ k.0, λ is. ap due_of due ∙ k.1 is)

wire_none : (key : Option (List ℕ)) → wire_payload key [] ≡ []
wire_none None = refl
wire_none (Some key) = refl

-- ---- the bytes of a head

abbrev pub head_of : HeadInfo → List ℕ
head_of info = head_bytes info.fin info.op info.key info.form info.len

module _ (role : Role) (limits : Limits) (old new : Scan) (chunk after : List ℕ) (n : ℕ) (came : List ℕ) (kept : Redactor) (written : List ℕ) (h : IsRedacting role limits old kept came written) where
  abbrev done : List Frame
  done = h.frames

  abbrev share : List ℕ
  share = take n chunk

  abbrev group : List Frame
  group = unfinished h.frames

  -- ---- nothing to report

  -- The same frames, and more bytes of a head.
  pub quiet : (part : Part) → 0 < n → IsCall old new chunk after n taken.More part → IsRedacting role limits new kept (came ++ share) (written ++ take n after)
  quiet part some call =
      let r = reached role limits old new chunk after n taken.More part came h.frames h.position h.rest h.followed call in
      let other : taken.More ≡ taken.Refused → ⊥ = λ same. cc in
      let here = is_between role limits old new chunk after n taken.More part came h.frames h.position h.rest h.followed call r.0.found.0 r.0.found.1 other some in
      let same : after ≡ chunk = call.untouched (λ is. cc) other in
      let head : h.rest_written ≡ h.rest = elim (subst (λ (p : Position). IsRestWritten h.frames h.rest p h.rest_written) here h.is_rest) [
        | inl closed ↦ absurd (r.0.found.2 closed.0.0 [] closed.0.1 closed.0.3 closed.0.2)
        | inr none ↦ none.1
      ] in
      record {
        frames = h.frames;
        position = h.position;
        rest = h.rest ++ share;
        followed = same_follows role limits old new chunk after n taken.More part came h.frames h.position h.rest h.followed call r.0.found.0 r.0.found.1 other;
        rest_written = h.rest_written ++ take n after;
        is_rest = subst (λ (p : Position). IsRestWritten h.frames (h.rest ++ share) p (h.rest_written ++ take n after)) (sym here) (inr (r.0.found.2, λ i. head i ++ take n (same i)));
        whole = ap (λ (bs : List ℕ). bs ++ take n after) h.whole ∙ append_assoc (stream (redacted_frames [] h.frames)) h.rest_written (take n after);
        keeps = h.keeps;
        few = let before = h.few in omega (arith, before, length-append came share);
      }

  -- ---- after a Close

  pub closed : (part : Part) (last : List ℕ) → 0 < n → IsCall old new chunk after n taken.Closed part → last ≡ zeros_for share → IsRedacting role limits new kept (came ++ share) (written ++ last)
  closed part last some call zeros =
      let r = reached role limits old new chunk after n taken.Closed part came h.frames h.position h.rest h.followed call in
      let other : taken.Closed ≡ taken.Refused → ⊥ = λ same. cc in
      let here = is_between role limits old new chunk after n taken.Closed part came h.frames h.position h.rest h.followed call r.0.found.0 r.0.found.1 other some in
      let tail : h.rest_written ≡ zeros_for h.rest = elim (subst (λ (p : Position). IsRestWritten h.frames h.rest p h.rest_written) here h.is_rest) [
        | inl ends ↦ ends.1
        | inr none ↦ let ends = r.0.found.2 in absurd (none.0 ends.0 [] ends.1 ends.3 ends.2)
      ] in
      record {
        frames = h.frames;
        position = h.position;
        rest = h.rest ++ share;
        followed = same_follows role limits old new chunk after n taken.Closed part came h.frames h.position h.rest h.followed call r.0.found.0 r.0.found.1 other;
        rest_written = h.rest_written ++ last;
        is_rest = subst (λ (p : Position). IsRestWritten h.frames (h.rest ++ share) p (h.rest_written ++ last)) (sym here) (inl (r.0.found.2, (λ i. tail i ++ zeros i) ∙ sym (zeros-append h.rest share)));
        whole = ap (λ (bs : List ℕ). bs ++ last) h.whole ∙ append_assoc (stream (redacted_frames [] h.frames)) h.rest_written last;
        keeps = h.keeps;
        few = let before = h.few in omega (arith, before, length-append came share);
      }

  -- ---- a part of a frame

  module _ (part : Part) (call : IsCall old new chunk after n taken.Part part) (start_within : part.start ≤ n) (sized : length after ≡ length chunk) where
    abbrev r : IsReachedBy role limits new (came ++ take n chunk) (IsPart h.frames h.position part (drop part.start (take n after)))
    r = reach role limits old new chunk after n part came h.frames h.position h.rest h.followed call

    abbrev before : List ℕ
    before = r.found.before

    abbrev payload : List ℕ
    payload = drop part.start (take n after)

    abbrev follows_part : HasFollowed role limits new (came ++ share) r.frames r.position r.since
    follows_part = part_follows role limits old new chunk after n part came h.frames h.position h.rest h.followed call

    t : IsTaken role limits h.frames h.rest before part payload share r.frames r.position r.since
    t = subst (λ (bs : List ℕ). IsTaken role limits h.frames h.rest before part bs share r.frames r.position r.since)
        (take_all (length (take n after) - part.start) (drop part.start (take n after)) (omega (arith, length-drop part.start (take n after))))
        (part_taken role limits old new chunk after n part came h.frames h.position h.rest h.followed call)

    -- The bytes since the last whole frame: the head, and a payload of this size.
    record IsHeadAndPayload : Type 0 where
      no_close : HasNoClose h.frames
      wire : List ℕ
      whole : h.rest ++ share ≡ head_of part.head ++ wire
      size : length wire ≡ length (before ++ payload)
      may : MayBegin (unfinished h.frames) part.head.op

    split : IsHeadAndPayload
    split = elim (cases_Bool part.ends) [ inl ends ↦ whole_frame ends (t.goes_on.ends ends) | inr goes ↦ begun_frame (t.goes_on.within goes) ]
      where
        whole_frame : part.ends ≡ true → ((frame : Frame) × (part.head ≡ info_of (length (stream h.frames)) frame) × (frame.payload ≡ before ++ payload) × (r.frames ≡ h.frames ++ frame ∷ []) × (r.position ≡ BetweenFrames)) → IsHeadAndPayload
        whole_frame ends (frame, head_is, payload_is, frames_are, there) =
            let info = info_of (length (stream h.frames)) frame in
            let all : stream h.frames ++ (h.rest ++ share) ≡ stream h.frames ++ frame_bytes frame =
            t.whole ∙ (λ i. stream (frames_are i) ++ t.no_rest ends i) ∙ append-nil (stream (h.frames ++ frame ∷ [])) ∙ stream_push h.frames frame in
            let law = (lawful_done role limits new (came ++ share) r.frames r.position r.since follows_part) in
            record {
              no_close = no_close_before role limits h.frames frame [] (subst (IsLawful role limits) frames_are law);
              wire = wire_payload frame.key frame.payload;
              whole = append_cancel (stream h.frames) (h.rest ++ share) (frame_bytes frame) all ∙ ap (λ (i : HeadInfo). head_of i ++ wire_payload frame.key frame.payload) (sym head_is);
              size = length-wire_payload frame.key frame.payload ∙ ap (λ (bs : List ℕ). length bs) payload_is;
              may = subst (λ (i : HeadInfo). MayBegin (unfinished h.frames) i.op) (sym head_is) (may_lawful role limits h.frames frame ((subst (IsLawful role limits) frames_are law).each h.frames [] frame refl));
            }

        begun_frame : (r.frames ≡ h.frames) × (r.position ≡ InFrame part.head (before ++ payload)) → IsHeadAndPayload
        begun_frame goes =
            let own = in_frame role limits new (came ++ share) r.frames r.position r.since follows_part part.head (before ++ payload) goes.1 in
            let b = own.begins in
            let since_is : r.since ≡ h.rest ++ share = sym (append_cancel (stream h.frames) (h.rest ++ share) r.since (t.whole ∙ ap (λ (fs : List Frame). stream fs ++ r.since) goes.0)) in
            record {
              no_close = subst HasNoClose goes.0 own.no_close;
              wire = b.following;
              whole = sym since_is ∙ b.whole ∙ ap (λ (bs : List ℕ). bs ++ b.following) b.encoded;
              size = own.size;
              may = subst (λ (fs : List Frame). MayBegin (unfinished fs) part.head.op) goes.0 (may_begun role limits r.frames r.since part.head b);
            }

    size_of_payload : length payload + part.start ≡ n
    size_of_payload =
        let within = call.within in
        let all : length (take n after) ≡ n = length-take-le n after (omega (arith, sized, within)) in
        omega (arith, all, length-drop part.start (take n after), start_within)

    size_of_share : length share ≡ n
    size_of_share = length-take-le n chunk call.within

    -- What was written for it.
    module _ (next : Redactor) (out : List ℕ) (p : TakesPart kept next part payload out) where
      -- What is kept before this part of the frame, and that many bytes of its payload were masked.
      record IsOn : Type 0 where
        done_is : p.begun.done ≡ length before
        keeps : KeepsIn p.begun (unfinished h.frames) part.head.op before
        written_is : h.rest_written ++ take part.start chunk ≡ head_of part.head ++ wire_payload part.head.key (redacted_payload (unfinished h.frames) part.head.op before)

      on : IsOn
      on = elim (cases_Bool part.begins) [ inl begins ↦ at_front begins (begins_at h.position part before r.found.is_at begins) | inr goes ↦ within goes (goes_on_at h.position part before r.found.is_at goes) ]
        where
          size : length h.rest + n ≡ length (head_of part.head) + (length before + length payload)
          size =
              let all = ap (λ (bs : List ℕ). length bs) split.whole in
              let wire = split.size in
              omega (arith, all, wire, size_of_share, length-append h.rest share, length-append (head_of part.head) split.wire, length-append before payload)

          at_front : part.begins ≡ true → (h.position ≡ BetweenFrames) × (before ≡ []) → IsOn
          at_front begins (here, none) =
              let b = p.begins begins in
              let empty : length before ≡ 0 = ap (λ (bs : List ℕ). length bs) none in
              let k = subst (KeepsAt kept h.frames) here h.keeps in
              let cut : take part.start share ++ drop part.start share ≡ share = take-append-drop part.start share in
              let front : (h.rest ++ take part.start share) ++ drop part.start share ≡ head_of part.head ++ split.wire =
              append_assoc h.rest (take part.start share) (drop part.start share) ∙ ap (λ (bs : List ℕ). h.rest ++ bs) cut ∙ split.whole in
              let few : length (take part.start share) ≡ part.start = length-take-le part.start share (omega (arith, start_within, size_of_share)) in
              let head : h.rest ++ take part.start share ≡ head_of part.head =
              (fronts_agree (h.rest ++ take part.start share) (head_of part.head) (drop part.start share) split.wire (omega (arith, size, empty, few, size_of_payload, length-append h.rest (take part.start share))) front).0 in
              let shorter : take part.start share ≡ take part.start chunk = take-take part.start n chunk start_within in
              let same = by_rest (subst (λ (q : Position). IsRestWritten h.frames h.rest q h.rest_written) here h.is_rest) in
              record {
                done_is = b.done ∙ sym empty;
                keeps = subst (KeepsIn p.begun (unfinished h.frames) part.head.op) (sym none) (keeps_begun kept p.begun (unfinished h.frames) part.head.op split.may (k.1 same.0) b);
                written_is =
                    (λ i. same.1 i ++ sym shorter i) ∙ head ∙ sym (append-nil (head_of part.head))
                    ∙ ap (λ (bs : List ℕ). head_of part.head ++ bs) (sym (ap (λ (bs : List ℕ). wire_payload part.head.key bs) (ap (λ (bs : List ℕ). redacted_payload (unfinished h.frames) part.head.op bs) none ∙ payload_none (unfinished h.frames) part.head.op) ∙ wire_none part.head.key));
              }
            where
              by_rest : (EndsWithClose h.frames × (h.rest_written ≡ zeros_for h.rest)) ⊎ (HasNoClose h.frames × (h.rest_written ≡ h.rest)) → HasNoClose h.frames × (h.rest_written ≡ h.rest)
              by_rest (inl closed) = let ends = closed.0 in absurd (split.no_close ends.0 [] ends.1 ends.3 ends.2)
              by_rest (inr none) = none

          within : part.begins ≡ false → h.position ≡ InFrame part.head before → IsOn
          within goes here =
              let k = subst (KeepsAt kept h.frames) here h.keeps in
              let own = size_in_frame role limits old came h.frames h.position h.rest h.followed part.head before here in
              let none : part.start ≡ 0 = omega (arith, own, size, size_of_payload) in
              let same = p.goes_on goes in
              record {
                done_is = ap (λ (q : Redactor). q.done) same ∙ k.3;
                keeps = subst (λ (q : Redactor). KeepsIn q (unfinished h.frames) part.head.op before) (sym same) k.4;
                written_is = (λ i. subst (λ (q : Position). IsRestWritten h.frames h.rest q h.rest_written) here h.is_rest i ++ take (none i) chunk) ∙ append-nil (head_of part.head ++ wire_payload part.head.key (redacted_payload (unfinished h.frames) part.head.op before));
              }

      -- The head, and the payload so far.
      written_so_far : (h.rest_written ++ take part.start chunk) ++ out ≡ head_of part.head ++ wire_payload part.head.key (redacted_payload (unfinished h.frames) part.head.op (before ++ payload))
      written_so_far =
          let key = part.head.key in
          let old_part = redacted_payload (unfinished h.frames) part.head.op before in
          let more = replaced part.head.op p.begun.text (due_of p.begun.due) p.begun.done payload in
          let offset : p.begun.done ≡ length old_part = on.done_is ∙ sym (length-redacted_payload (unfinished h.frames) part.head.op before) in
          let out_is : out ≡ unmasked_by key (length old_part) more = p.masks ∙ (λ i. unmasked_by key (offset i) (p.replaces.written i)) in
          let joined : wire_payload key (redacted_payload (unfinished h.frames) part.head.op (before ++ payload)) ≡ wire_payload key old_part ++ out =
          ap (λ (bs : List ℕ). wire_payload key bs) (payload_more p.begun (unfinished h.frames) before payload on.done_is part.head.op on.keeps) ∙ wire_payload_is key (old_part ++ more) ∙ unmasked_by-joined key old_part more ∙ (λ i. sym (wire_payload_is key old_part) i ++ sym out_is i) in
          ap (λ (bs : List ℕ). bs ++ out) on.written_is ∙ append_assoc (head_of part.head) (wire_payload key old_part) out ∙ ap (λ (bs : List ℕ). head_of part.head ++ bs) (sym joined)

      -- What is kept with it.
      kept_in : KeepsIn next (unfinished h.frames) part.head.op (before ++ payload)
      kept_in = same_kept p.last next (unfinished h.frames) part.head.op (before ++ payload) p.due p.text p.reason
          (keeps_more p.begun (unfinished h.frames) before payload on.done_is p.last p.middle part.head.op on.keeps p.replaces)

      so_far : written ++ (take part.start chunk ++ out) ≡ stream (redacted_frames [] h.frames) ++ ((h.rest_written ++ take part.start chunk) ++ out)
      so_far =
          ap (λ (bs : List ℕ). bs ++ (take part.start chunk ++ out)) h.whole ∙ append_assoc (stream (redacted_frames [] h.frames)) h.rest_written (take part.start chunk ++ out)
          ∙ ap (λ (bs : List ℕ). stream (redacted_frames [] h.frames) ++ bs) (sym (append_assoc h.rest_written (take part.start chunk) out))

      few_after : next.done ≤ length (came ++ share)
      few_after =
          let last = p.done in
          let same = p.replaces.done in
          let front = on.done_is in
          let all = ap (λ (bs : List ℕ). length bs) split.whole in
          let wire = split.size in
          let whole = rest_few role limits old came h.frames h.position h.rest h.followed in
          omega (arith, last, same, front, all, wire, whole, length-append before payload, length-append h.rest share, length-append (head_of part.head) split.wire, length-append came share)

      -- The frame goes on.
      in_the_frame : part.ends ≡ false → (r.frames ≡ h.frames) × (r.position ≡ InFrame part.head (before ++ payload)) → IsRedacting role limits new next (came ++ share) (written ++ (take part.start chunk ++ out))
      in_the_frame goes (frames_are, there) =
          let last = p.done in
          let same = p.replaces.done in
          let front = on.done_is in
          let count : next.done ≡ length (before ++ payload) = omega (arith, last, same, front, length-append before payload) in
          record {
            frames = r.frames;
            position = r.position;
            rest = r.since;
            followed = follows_part;
            rest_written = (h.rest_written ++ take part.start chunk) ++ out;
            is_rest = subst (λ (q : Position). IsRestWritten r.frames r.since q ((h.rest_written ++ take part.start chunk) ++ out)) (sym there)
                (written_so_far ∙ ap (λ (fs : List Frame). head_of part.head ++ wire_payload part.head.key (redacted_payload (unfinished fs) part.head.op (before ++ payload))) (sym frames_are));
            whole = so_far ∙ ap (λ (fs : List Frame). stream (redacted_frames [] fs) ++ ((h.rest_written ++ take part.start chunk) ++ out)) (sym frames_are);
            few = few_after;
            keeps = subst (KeepsAt next r.frames) (sym there)
                (p.inside ∙ ap not goes, p.op, p.key, count, subst (λ (fs : List Frame). KeepsIn next (unfinished fs) part.head.op (before ++ payload)) (sym frames_are) kept_in);
          }

      -- The frame ends.
      at_frame_end : part.ends ≡ true → ((frame : Frame) × (part.head ≡ info_of (length (stream h.frames)) frame) × (frame.payload ≡ before ++ payload) × (r.frames ≡ h.frames ++ frame ∷ []) × (r.position ≡ BetweenFrames))
          → IsRedacting role limits new next (came ++ share) (written ++ (take part.start chunk ++ out))
      at_frame_end ends (frame, head_is, payload_is, frames_are, there) =
          let redacted = redacted_payload (unfinished h.frames) frame.op frame.payload in
          let g = with_payload frame redacted in
          let bytes : frame_bytes g ≡ (h.rest_written ++ take part.start chunk) ++ out =
          ap (λ (n : ℕ). head_bytes frame.fin frame.op frame.key frame.form n ++ wire_payload frame.key redacted) (length-redacted_payload (unfinished h.frames) frame.op frame.payload)
          ∙ ap (λ (i : HeadInfo). head_of i ++ wire_payload i.key (redacted_payload (unfinished h.frames) i.op frame.payload)) (sym head_is)
          ∙ ap (λ (bs : List ℕ). head_of part.head ++ wire_payload part.head.key (redacted_payload (unfinished h.frames) part.head.op bs)) payload_is
          ∙ sym written_so_far in
          let all : stream (redacted_frames [] (h.frames ++ frame ∷ [])) ≡ stream (redacted_frames [] h.frames) ++ ((h.rest_written ++ take part.start chunk) ++ out) =
          ap (λ (fs : List Frame). stream fs) (redacted_push [] h.frames frame) ∙ stream_push (redacted_frames [] h.frames) g ∙ ap (λ (bs : List ℕ). stream (redacted_frames [] h.frames) ++ bs) bytes in
          let none : r.since ≡ [] = t.no_rest ends in
          let may : MayBegin (unfinished h.frames) frame.op = subst (λ (i : HeadInfo). MayBegin (unfinished h.frames) i.op) head_is split.may in
          let own : KeepsIn next (unfinished h.frames) frame.op frame.payload =
          subst (λ (bs : List ℕ). KeepsIn next (unfinished h.frames) frame.op bs) (sym payload_is) (subst (λ (i : HeadInfo). KeepsIn next (unfinished h.frames) i.op (before ++ payload)) head_is kept_in) in
          record {
            frames = r.frames;
            position = r.position;
            rest = r.since;
            followed = follows_part;
            rest_written = [];
            is_rest = subst (λ (q : Position). IsRestWritten r.frames r.since q []) (sym there) (elim (between role limits new (came ++ share) r.frames r.position r.since follows_part there) [
              | inl closed ↦ inl (closed, sym (ap (λ (bs : List ℕ). zeros_for bs) none))
              | inr other ↦ inr (other.0, sym none)
            ]);
            whole = so_far ∙ sym all ∙ ap (λ (fs : List Frame). stream (redacted_frames [] fs)) (sym frames_are) ∙ sym (append-nil (stream (redacted_frames [] r.frames)));
            few = few_after;
            keeps = subst (KeepsAt next r.frames) (sym there) (p.inside ∙ ap not ends, subst (λ (fs : List Frame). HasNoClose fs → KeepsOpen next (unfinished fs)) (sym frames_are) (λ no_close. keeps_ended next h.frames frame may own no_close));
          }

      pub part_step : IsRedacting role limits new next (came ++ share) (written ++ (take part.start chunk ++ out))
      part_step = elim (cases_Bool part.ends) [ inl ends ↦ at_frame_end ends (r.found.goes_on.ends ends) | inr goes ↦ in_the_frame goes (r.found.goes_on.within goes) ]
