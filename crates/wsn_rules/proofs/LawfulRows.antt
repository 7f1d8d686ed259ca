-- No row of the table holds for a frame that is lawful after others.
use Rattle.std.proofs.Common.{◌≡◌, ℕ, ◌+◌, ◌<◌, ◌≤◌, Bool, true, false, not, Option, Some, None, is_some, List, [], ◌∷◌, ◌++◌, ◌⊎◌, length, take, drop, refl, sym, ap, ◌∙◌, subst, inl, inr, arith, true≢false, if◌then◌else◌}
use Rattle.std.proofs.lemmas.List.{length-append, length-take-le, take_all}
use Rattle.wsn_wire.specs.declared.endpoint.Role.{Role}
use Rattle.wsn_wire.specs.declared.length_encoding.Lengths.{Lengths}
use Rattle.wsn_wire.specs.declared.opcode.Op.{Op}
use Rattle.wsn_wire.specs.declared.refusal.Reason.{Reason}
use Rattle.wsn_wire.specs.declared.refusal.Reason.TheVariants.{ReservedBits, ReservedOpcode, ControlNotFinal, NothingToContinue, MessageOpen, LengthTopBit, LengthNotMinimal, MessageTooBig, CloseCode, CloseReason, TextBad, TextCut, TooManyFrames}
use Rattle.wsn_wire.specs.Frame.{Frame, opcode, is_control, second_byte, len_form_of, length_bytes, key_bytes, wire_payload, masked}
use Rattle.wsn_wire.specs.ReceivedHead.{HasLayout, opcode_field, mask_bit, encoded_length}
use Rattle.wsn_wire.specs.EvidenceInHeads.{HeadHasNoEvidence}
use Rattle.wsn_wire.proofs.MaskLemmas.{masked-masked}
use Rattle.wsn_wire.proofs.FrameLemmas.{layout_of_frame, first_byte_fields, second_byte_fields, length_bytes_fields, spells-len_form_of}
use Rattle.wsn_wire.proofs.HeadLemmas.{IsSpelledBy, frame_shows_nothing, close_from_opcode}
use Rattle.wsn_text.specs.Utf8.{IsText, BeginsText}
use Rattle.wsn_text.specs.CloseBody.{IsCloseBody}
use Rattle.wsn_rules.specs.Limits.{Limits}
use Rattle.wsn_rules.specs.Group.{unfinished, payload_of}
use Rattle.wsn_rules.specs.Lawful.{FrameLaw, LawAt}
use Rattle.wsn_rules.specs.Evidence.{EvidentByFirst, EvidentByLength, EvidentByPayload, IsOfText}
use Rattle.wsn_rules.proofs.RowsOfLayout.{RowAt, payload_in, reported_by, length-unmasked}
use Rattle.wsn_rules.proofs.RowsOfLayout.RowAt.{FirstShows, SecondShows, LengthShows, PayloadShows}
use Rattle.wsn_rules.proofs.MessageText.{not_one_byte, continue_from_opcode, data_from_opcode, begins_from_opcode, text_of_push, group_from_of_text, begins_not_bad, code_is_accepted, reason_is_text, reason_not_bad}

-- The layout of a frame's bytes is that of the frame.
pub encoded_by_itself : (role : Role) (lengths : Lengths) (f : Frame) (law : FrameLaw role lengths f) → IsSpelledBy role lengths (layout_of_frame f law.encoded.encodable) f
unfolding layout_of_frame
encoded_by_itself role lengths f law =
    let owed = law.encoded in
    let spells = spells-len_form_of f.form (length f.payload) owed.encodable.form owed.encodable.size in
    let of_first = first_byte_fields f.fin f.op in
    let of_second = second_byte_fields f.key (len_form_of f.form (length f.payload)) (length f.payload) spells in
    let of_length = length_bytes_fields (len_form_of f.form (length f.payload)) (length f.payload) spells in
    let bytes = length_bytes (len_form_of f.form (length f.payload)) (length f.payload) in
    record {
      owed = owed;
      not_one = λ is. not_one_byte f.payload (law.close is);
      bytes_are = refl;
      fin_is = sym of_first.fin_is;
      opcode_is = sym of_first.opcode_is;
      key_is = sym of_second.mask_is;
      key_bytes_are = refl;
      payload_is = unmasks f.key (mask_bit (second_byte f.key (len_form_of f.form (length f.payload)))) of_second.mask_is;
      length_is = sym (ap (λ g. encoded_length g bytes) of_second.field_is ∙ of_length.decoded);
    }
  where
    unmasks : (key : Option (List ℕ)) (mask : Bool) → mask ≡ is_some key → f.payload ≡ (if mask then masked (key_bytes key) 0 (wire_payload key f.payload) else wire_payload key f.payload)
    unmasks None true e = absurd (true≢false e)
    unmasks None false e = refl
    unmasks (Some key) true e = sym (masked-masked key 0 f.payload)
    unmasks (Some key) false e = absurd (true≢false (sym e))

-- ---- no row

module _ (role : Role) (limits : Limits) (before : List Frame) (f : Frame) (law : LawAt role limits before f) {bytes : List ℕ} (l : HasLayout bytes) (encoded : IsSpelledBy role limits.lengths l f) (shows : HeadHasNoEvidence role limits.lengths l.first l.second l.len) where
  op_is : (n : ℕ) → opcode_field l.first ≡ n → opcode f.op ≡ n
  op_is n e = encoded.opcode_is ∙ e

  no_first : (reason : Reason) → EvidentByFirst limits (unfinished before) reason l.first → ⊥
  no_first NothingToContinue row =
      let is_continue = continue_from_opcode f.op (op_is 0 row.0) in
      (law.group (ap (λ (op : Op). not (is_control op)) is_continue)).continues.0 is_continue row.1
  no_first MessageOpen row =
      let one_or_two : (opcode f.op ≡ 1) ⊎ (opcode f.op ≡ 2) = elim row.0 [ inl one ↦ inl (op_is 1 one) | inr two ↦ inr (op_is 2 two) ] in
      let begins = begins_from_opcode f.op one_or_two in
      begins.0 ((law.group begins.1).continues.1 row.1)
  no_first TooManyFrames row =
      let is_continue = continue_from_opcode f.op (op_is 0 row.0) in
      let count = (law.group (ap (λ (op : Op). not (is_control op)) is_continue)).count (length (unfinished before)) row.1 in
      let more = length-append (unfinished before) (f ∷ []) in
      omega arith
  no_first ReservedBits row = shows.by_first ReservedBits row
  no_first ReservedOpcode row = shows.by_first ReservedOpcode row
  no_first ControlNotFinal row = shows.by_first ControlNotFinal row
  no_first reason row = row

  no_length : (reason : Reason) → EvidentByLength limits (unfinished before) reason l.first l.second l.len → ⊥
  no_length MessageTooBig row =
      let is_data = data_from_opcode f.op (subst (λ (n : ℕ). n ≤ 2) (sym encoded.opcode_is) row.0) in
      let size = (law.group is_data).size in
      let joined = ap (λ (bs : List ℕ). length bs) (text_of_push (unfinished before) f) ∙ length-append (payload_of (unfinished before)) f.payload in
      let past : limits.message < length (payload_of (unfinished before)) + reported_by l = row.1 in
      let decoded : length f.payload ≡ reported_by l = encoded.length_is in
      omega arith
  no_length LengthTopBit row = shows.by_length LengthTopBit row
  no_length LengthNotMinimal row = shows.by_length LengthNotMinimal row
  no_length reason row = row

  payload_same : payload_in l ≡ f.payload
  payload_same = sym encoded.payload_is

  -- A text message begins UTF-8 with this frame, and is UTF-8 if the frame is final.
  begins_text : IsOfText (unfinished before) (opcode_field l.first) → BeginsText (payload_of (unfinished before) ++ f.payload)
  begins_text text =
      let of_text = group_from_of_text (unfinished before) f (subst (λ (n : ℕ). IsOfText (unfinished before) n) (sym encoded.opcode_is) text) in
      subst BeginsText (text_of_push (unfinished before) f) ((law.group of_text.0).begins of_text.1)

  whole_text : IsOfText (unfinished before) (opcode_field l.first) → f.fin ≡ true → IsText (payload_of (unfinished before) ++ f.payload)
  whole_text text final =
      let of_text = group_from_of_text (unfinished before) f (subst (λ (n : ℕ). IsOfText (unfinished before) n) (sym encoded.opcode_is) text) in
      subst IsText (text_of_push (unfinished before) f) ((law.group of_text.0).text of_text.1 final)

  -- A prefix as long as the payload is the payload.
  whole_front : (n : ℕ) → n ≤ length l.payload → length (take n (payload_in l)) ≡ reported_by l → take n (payload_in l) ≡ payload_in l
  whole_front n fits whole =
      let count : length (payload_in l) ≡ length l.payload = length-unmasked l.second l.key l.payload in
      let decoded : length l.payload ≡ reported_by l = l.payload_count in
      let took = length-take-le n (payload_in l) (omega arith) in
      take_all n (payload_in l) (omega arith)

  no_payload : (reason : Reason) (n : ℕ) → n ≤ length l.payload → EvidentByPayload (unfinished before) reason l.first (reported_by l) (take n (payload_in l)) → ⊥
  no_payload CloseCode n fits row =
      let body = law.frame.close (close_from_opcode f.op (op_is 8 row.0)) in
      let count : length (payload_in l) ≡ length l.payload = length-unmasked l.second l.key l.payload in
      row.2 (code_is_accepted (payload_in l) (subst IsCloseBody (sym payload_same) body) n (omega arith) row.1)
  no_payload CloseReason n fits row =
      let body = subst IsCloseBody (sym payload_same) (law.frame.close (close_from_opcode f.op (op_is 8 row.0))) in
      elim row.1 [
        | inl bad ↦ reason_not_bad (payload_in l) body n bad
        | inr p ↦ p.1.1 (subst (λ (bs : List ℕ). IsText (drop 2 bs)) (sym (whole_front n fits p.0)) (reason_is_text (payload_in l) body))
      ]
  no_payload TextBad n fits row =
      begins_not_bad (payload_of (unfinished before)) (payload_in l) n (subst (λ (bs : List ℕ). BeginsText (payload_of (unfinished before) ++ bs)) (sym payload_same) (begins_text row.0)) row.1
  no_payload TextCut n fits row =
      let final : f.fin ≡ true = encoded.fin_is ∙ row.1 in
      let same = whole_front n fits row.2 ∙ payload_same in
      row.3.1 (subst (λ (bs : List ℕ). IsText (payload_of (unfinished before) ++ bs)) (sym same) (whole_text row.0 final))
  no_payload reason n fits row = row

  pub no_row : (reason : Reason) → RowAt role limits (unfinished before) reason l → ⊥
  no_row reason (FirstShows row) = no_first reason row
  no_row reason (SecondShows row) = shows.by_second reason row
  no_row reason (LengthShows row) = no_length reason row
  no_row reason (PayloadShows n fits row) = no_payload reason n fits row

-- For the bytes of a frame that is lawful after others, no row holds.
pub lawful_shows_no_row : (role : Role) (limits : Limits) (before : List Frame) (f : Frame) (law : LawAt role limits before f) (reason : Reason) → RowAt role limits (unfinished before) reason (layout_of_frame f law.frame.encoded.encodable) → ⊥
unfolding layout_of_frame
lawful_shows_no_row role limits before f law reason row =
    let encoded = encoded_by_itself role limits.lengths f law.frame in
    no_row role limits before f law (layout_of_frame f law.frame.encoded.encodable) encoded (frame_shows_nothing role limits.lengths f law.frame.encoded encoded.not_one) reason row
