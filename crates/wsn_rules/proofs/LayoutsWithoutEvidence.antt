-- A complete layout for which no row holds is the bytes of a frame that is lawful there.
use Rattle.std.proofs.Common.{◌≡◌, ◌≢◌, ℕ, ◌+◌, ◌≤◌, true, not, Some, List, [], ◌∷◌, ◌++◌, ◌⊎◌, length, take, drop, sym, ap, ◌∙◌, subst, inl, inr, arith}
use Rattle.std.proofs.lemmas.Bool.{cases_lt, cases_eq}
use Rattle.std.proofs.lemmas.List.{length-append, take_all}
use Rattle.std.specs.Option.{ForSome}
use Rattle.wsn_wire.specs.declared.endpoint.Role.{Role}
use Rattle.wsn_wire.specs.declared.opcode.Op.TheVariants.{Continue, Text, Close}
use Rattle.wsn_wire.specs.declared.refusal.Reason.{Reason}
use Rattle.wsn_wire.specs.declared.refusal.Reason.TheVariants.{ReservedBits, ReservedOpcode, ControlNotFinal, NothingToContinue, MessageOpen, LengthTopBit, LengthNotMinimal, MessageTooBig, CloseCode, CloseReason, TextBad, TextCut, TooManyFrames}
use Rattle.wsn_wire.specs.Frame.{Frame, opcode, frame_bytes}
use Rattle.wsn_wire.specs.ReceivedHead.{HasLayout, opcode_field, len_form_at}
use Rattle.wsn_wire.specs.EvidenceInHeads.{EvidentInFirst, EvidentInLength, HeadHasNoEvidence}
use Rattle.wsn_wire.proofs.FrameLemmas.{frame_at}
use Rattle.wsn_wire.proofs.HeadLemmas.{IsSpelledBy, frame_of_layout}
use Rattle.wsn_text.specs.Utf8.{IsText, BeginsText}
use Rattle.wsn_text.specs.CloseBody.{IsCloseBody}
use Rattle.wsn_text.proofs.Decide.{text_decided}
use Rattle.wsn_text.proofs.Prefixes.{begins-nil, begins_or_first_bad}
use Rattle.wsn_rules.specs.Limits.{Limits, InRange}
use Rattle.wsn_rules.specs.Group.{is_data, unfinished, first_op, payload_of}
use Rattle.wsn_rules.specs.MessageLaw.{GroupLaw}
use Rattle.wsn_rules.specs.Lawful.{FrameLaw, LawAt}
use Rattle.wsn_rules.specs.Evidence.{EvidentByPayload, IsOfText, EndsBad, EndsInside}
use Rattle.wsn_rules.proofs.Groups.{IsGroup}
use Rattle.wsn_rules.proofs.RowsOfLayout.{RowAt, payload_in, reported_by}
use Rattle.wsn_rules.proofs.RowsOfLayout.RowAt.{FirstShows, SecondShows, LengthShows, PayloadShows}
use Rattle.wsn_rules.proofs.MessageText.{opcode_of_data, opcode_of_beginning, continue_or_not, text_of_push, of_text_from_group, bad_after_front, BodyShows, body_or_shows}

-- A frame of a layout, lawful after the frames before.
pub record IsLawfulFrame (role : Role) (limits : Limits) (before : List Frame) (bytes : List ℕ) : Type 0 where
  pub frame : Frame
  pub bytes_are : frame_bytes frame ≡ bytes
  pub law : LawAt role limits before frame

module _ (role : Role) (limits : Limits) (range : InRange limits) (before : List Frame) (group : IsGroup limits (unfinished before)) {bytes : List ℕ} (l : HasLayout bytes) (has_no_evidence : (reason : Reason) → RowAt role limits (unfinished before) reason l → ⊥) where
  no_first : (reason : Reason) → ¬ (EvidentInFirst reason l.first)
  no_first ReservedBits row = has_no_evidence ReservedBits (FirstShows row)
  no_first ReservedOpcode row = has_no_evidence ReservedOpcode (FirstShows row)
  no_first ControlNotFinal row = has_no_evidence ControlNotFinal (FirstShows row)
  no_first reason row = row

  no_length : (reason : Reason) → ¬ (EvidentInLength limits.lengths reason (len_form_at l.second) l.len)
  no_length LengthTopBit row = has_no_evidence LengthTopBit (LengthShows row)
  no_length LengthNotMinimal row = has_no_evidence LengthNotMinimal (LengthShows row)
  no_length reason row = row

  pub head_shows_nothing : HeadHasNoEvidence role limits.lengths l.first l.second l.len
  head_shows_nothing = record {
    by_first = no_first;
    by_second = λ reason row. has_no_evidence reason (SecondShows row);
    by_length = no_length;
  }

  module _ (f : Frame) (encoded : IsSpelledBy role limits.lengths l f) where
    payload_same : payload_in l ≡ f.payload
    payload_same = sym encoded.payload_is

    count_same : length l.payload ≡ length f.payload
    count_same = l.payload_count ∙ sym encoded.length_is

    -- No row holds for a prefix of the payload.
    no_payload : (reason : Reason) (n : ℕ) → n ≤ length f.payload → EvidentByPayload (unfinished before) reason l.first (reported_by l) (take n f.payload) → ⊥
    no_payload reason n fits row =
        let within : n ≤ length l.payload = subst (λ (m : ℕ). n ≤ m) (sym count_same) fits in
        has_no_evidence reason (PayloadShows n within (subst (λ (bs : List ℕ). EvidentByPayload (unfinished before) reason l.first (reported_by l) (take n bs)) (sym payload_same) row))

    no_body : f.op ≡ Close → BodyShows f.payload → ⊥
    no_body close (inl p) =
        no_payload CloseCode p.0 p.1 (sym encoded.opcode_is ∙ ap opcode close, p.2, p.3)
    no_body close (inr p) =
        let eight : opcode_field l.first ≡ 8 = sym encoded.opcode_is ∙ ap opcode close in
        let ends : EndsBad (drop 2 (take p.0 f.payload)) ⊎ ((length (take p.0 f.payload) ≡ reported_by l) × EndsInside (drop 2 (take p.0 f.payload))) =
        elim p.2 [ inl bad ↦ inl bad | inr q ↦ inr (q.0 ∙ encoded.length_is, q.1) ] in
        no_payload CloseReason p.0 p.1 (eight, ends)

    body_is_lawful : f.op ≡ Close → IsCloseBody f.payload
    body_is_lawful close =
        elim (body_or_shows f.payload encoded.owed.encodable.payload (encoded.not_one close)) [
          | inl body ↦ body
          | inr shows ↦ absurd (no_body close shows)
        ]

    pub frame_law : FrameLaw role limits.lengths f
    frame_law = record {
      encoded = encoded.owed;
      close = body_is_lawful;
    }

    -- A message continues with opcode 0 and begins with another.
    no_zero : unfinished before ≡ [] → f.op ≡ Continue → ⊥
    no_zero none is = has_no_evidence NothingToContinue (FirstShows (sym encoded.opcode_is ∙ ap opcode is, none))

    goes_on : is_data f ≡ true → unfinished before ≢ [] → f.op ≡ Continue
    goes_on data_frame some =
        elim (continue_or_not f.op) [
          | inl is ↦ is
          | inr other ↦
              let one_or_two : (opcode_field l.first ≡ 1) ⊎ (opcode_field l.first ≡ 2) =
              elim (opcode_of_beginning f.op data_frame other) [ inl one ↦ inl (sym encoded.opcode_is ∙ one) | inr two ↦ inr (sym encoded.opcode_is ∙ two) ] in
              absurd (has_no_evidence MessageOpen (FirstShows (one_or_two, some)))
        ]

    size_fits : is_data f ≡ true → length (payload_of (unfinished before ++ f ∷ [])) ≤ limits.message
    size_fits data_frame =
        let joined = ap (λ (bs : List ℕ). length bs) (text_of_push (unfinished before) f) ∙ length-append (payload_of (unfinished before)) f.payload in
        let decoded : length f.payload ≡ reported_by l = encoded.length_is in
        elim (cases_lt limits.message (length (payload_of (unfinished before)) + reported_by l)) [
          | inl past ↦ absurd (has_no_evidence MessageTooBig (LengthShows (subst (λ (n : ℕ). n ≤ 2) encoded.opcode_is (opcode_of_data f.op data_frame), past)))
          | inr fits ↦ omega arith
        ]

    count_fits : is_data f ≡ true → ForSome limits.frames (λ most. length (unfinished before ++ f ∷ []) ≤ most)
    count_fits data_frame most is =
        let more = length-append (unfinished before) (f ∷ []) in
        let least : 1 ≤ most = (range.frames most is).0 in
        let fits : length (unfinished before) ≤ most = group.count most is in
        elim (cases_eq (length (unfinished before)) most) [
          | inr less ↦ omega arith
          | inl all ↦
              let some : unfinished before ≢ [] = λ none. ones most (length (unfinished before)) least all (ap (λ (gs : List Frame). length gs) none) in
              let is_zero : opcode_field l.first ≡ 0 = sym encoded.opcode_is ∙ ap opcode (goes_on data_frame some) in
              absurd (has_no_evidence TooManyFrames (FirstShows (is_zero, is ∙ ap Some (sym all))))
        ]
      where
        ones : (most n : ℕ) → 1 ≤ most → n ≡ most → n ≡ 0 → ⊥
        ones most n least all none = omega arith

    group_begins : first_op (unfinished before ++ f ∷ []) ≡ Text → BeginsText (payload_of (unfinished before))
    group_begins text = of (unfinished before) group.begins text
      where
        of : (gs : List Frame) → (first_op gs ≡ Text → BeginsText (payload_of gs)) → first_op (gs ++ f ∷ []) ≡ Text → BeginsText (payload_of gs)
        of [] begins text = begins-nil
        of (g ∷ gs) begins text = begins text

    text_begins : is_data f ≡ true → first_op (unfinished before ++ f ∷ []) ≡ Text → BeginsText (payload_of (unfinished before) ++ f.payload)
    text_begins data_frame text =
        let of_text = subst (λ (n : ℕ). IsOfText (unfinished before) n) encoded.opcode_is (of_text_from_group (unfinished before) f data_frame text) in
        elim (begins_or_first_bad (payload_of (unfinished before) ++ f.payload)) [
          | inl begins ↦ begins
          | inr bad ↦
              let is_evident = bad_after_front (payload_of (unfinished before)) f.payload bad.0 (group_begins text) bad.1 in
              absurd (no_payload TextBad is_evident.0 is_evident.1 (of_text, is_evident.2))
        ]

    text_is_whole : is_data f ≡ true → first_op (unfinished before ++ f ∷ []) ≡ Text → f.fin ≡ true → IsText (payload_of (unfinished before) ++ f.payload)
    text_is_whole data_frame text final =
        let of_text = subst (λ (n : ℕ). IsOfText (unfinished before) n) encoded.opcode_is (of_text_from_group (unfinished before) f data_frame text) in
        let all = take_all (length f.payload) f.payload (omega arith) in
        elim (text_decided (payload_of (unfinished before) ++ f.payload)) [
          | inl is ↦ is
          | inr not ↦ absurd (no_payload TextCut (length f.payload) (omega arith) (of_text, sym encoded.fin_is ∙ final, ap (λ (bs : List ℕ). length bs) all ∙ encoded.length_is, subst (λ (bs : List ℕ). EndsInside (payload_of (unfinished before) ++ bs)) (sym all) (text_begins data_frame text, not)))
        ]

    pub group_law : is_data f ≡ true → GroupLaw limits (unfinished before) f
    group_law data_frame = record {
      continues = (λ is none. no_zero none is, goes_on data_frame);
      size = size_fits data_frame;
      count = count_fits data_frame;
      begins = λ text. subst BeginsText (sym (text_of_push (unfinished before) f)) (text_begins data_frame text);
      text = λ text final. subst IsText (sym (text_of_push (unfinished before) f)) (text_is_whole data_frame text final);
    }

  -- The table is complete.
  unfoldable pub without_evidence_is_lawful : IsLawfulFrame role limits before bytes
  without_evidence_is_lawful =
      let f = frame_at l.first l.second l.key l.payload in
      let encoded = frame_of_layout role limits.lengths bytes l head_shows_nothing in
      record {
        frame = frame_at l.first l.second l.key l.payload;
        bytes_are = encoded.bytes_are;
        law = record {
          frame = frame_law (frame_at l.first l.second l.key l.payload) encoded;
          group = group_law (frame_at l.first l.second l.key l.payload) encoded;
        };
      }
