-- The redaction of bytes is bytes.
use Rattle.std.proofs.Common.{◌≡◌, ℕ, ◌+◌, Bool, true, false, List, [], ◌∷◌, ◌++◌, length, take, drop, inl, inr, refl, sym, subst, append_assoc}
use Rattle.std.specs.List.{concat, flat_map}
use Rattle.wsn_wire.specs.declared.endpoint.Role.{Role}
use Rattle.wsn_wire.specs.declared.opcode.Op.{Op}
use Rattle.wsn_wire.specs.declared.opcode.Op.TheVariants.{Continue, Text, Close}
use Rattle.wsn_wire.specs.Frame.{Frame, IsBytes, frame_bytes, stream, wire_payload}
use Rattle.wsn_wire.proofs.FrameLemmas.{IsBytes-append, IsBytes-left, IsBytes-right, layout_of_frame, wire_payload_bytes}
use Rattle.wsn_rules.specs.declared.verdict.Verdict.{Verdict}
use Rattle.wsn_rules.specs.declared.verdict.Verdict.TheVariants.{Accepted, Cut, Refused}
use Rattle.wsn_rules.specs.Limits.{Limits}
use Rattle.wsn_rules.specs.Group.{unfinished, payload_of}
use Rattle.wsn_rules.specs.Lawful.{IsLawful}
use Rattle.wsn_rules.specs.Verdict.{IsVerdict, judged_bytes}
use Rattle.wsn_redact.specs.StandIns.{single_stand_in, stand_in, stand_in_of, IsRedactedText, IsRedacted}
use Rattle.wsn_redact.specs.Redaction.{zeros_for, is_of_text, IsRedactedData, IsRedactedPayload, IsRedactedRest, unjudged, IsRedaction, redacted_frames}
use Rattle.wsn_redact.proofs.RedactedPayloads.{are_redacted, one_frames}
use Rattle.wsn_redact.proofs.RedactedLawful.{stand_in_bytes, zeros_bytes}
use Rattle.wsn_redact.proofs.RedactedVerdicts.{frames_stay_lawful}
use Rattle.wsn_redact.proofs.StandInNumbers.{single_small}
use Rattle.wsn_rules.proofs.PlanTheory.MessageFrames.{bytes_drop, bytes_take}

-- ---- a text

stand_ins_bytes : (characters : List (List ℕ)) → IsBytes (concat characters) → IsBytes (flat_map stand_in_of characters)
stand_ins_bytes [] all = tt
stand_ins_bytes ([] ∷ characters) all = stand_ins_bytes characters all
stand_ins_bytes ((b ∷ more) ∷ characters) all =
    IsBytes-append (stand_in b) (flat_map stand_in_of characters) (stand_in_bytes b all.0) (stand_ins_bytes characters (IsBytes-right (b ∷ more) (concat characters) all))

begun_bytes : (begun : List ℕ) → IsBytes begun → IsBytes (take (length begun) (stand_in_of begun))
begun_bytes [] all = tt
begun_bytes (b ∷ begun) all = bytes_take (length (b ∷ begun)) (stand_in b) (stand_in_bytes b all.0)

text_bytes : (text redacted : List ℕ) → IsBytes text → IsRedactedText text redacted → IsBytes redacted
text_bytes text redacted all is =
    let characters = is.characters in
    let begun = is.begun in
    let parts = subst IsBytes is.text_is all in
    let whole = stand_ins_bytes characters (IsBytes-left (concat characters) begun parts) in
    let last = begun_bytes begun (IsBytes-right (concat characters) begun parts) in
    subst IsBytes (sym is.redacted_is) (IsBytes-append (flat_map stand_in_of characters) (take (length begun) (stand_in_of begun)) whole last)

redacted_bytes : (text redacted : List ℕ) → IsBytes text → IsRedacted text redacted → IsBytes redacted
redacted_bytes text redacted all (inl is) = text_bytes text redacted all is
redacted_bytes text redacted all (inr is) =
    let parts = subst IsBytes is.text_is all in
    let front = text_bytes is.front is.front_redacted (IsBytes-left is.front (is.bad ∷ []) parts) is.is_front in
    let bad = IsBytes-right is.front (is.bad ∷ []) parts in
    subst IsBytes (sym is.redacted_is) (IsBytes-append is.front_redacted (single_stand_in is.bad ∷ []) front (single_small is.bad bad.0, tt))

-- ---- a payload

data_bytes : (of_text : Bool) (earlier payload redacted : List ℕ) → IsBytes earlier → IsBytes payload → IsRedactedData of_text earlier payload redacted → IsBytes redacted
data_bytes true earlier payload redacted before all is =
    IsBytes-right is.before redacted (redacted_bytes (earlier ++ payload) (is.before ++ redacted) (IsBytes-append earlier payload before all) is.is)
data_bytes false earlier payload redacted before all is = subst IsBytes (sym is) (zeros_bytes payload)

pub payload_in_bytes : (group : List Frame) (op : Op) (payload redacted : List ℕ) → IsBytes (payload_of group) → IsBytes payload → IsRedactedPayload group op payload redacted → IsBytes redacted
payload_in_bytes group Close payload redacted before all is =
    subst IsBytes (sym is.2) (IsBytes-append (take 2 payload) is.0 (bytes_take 2 payload all) (redacted_bytes (drop 2 payload) is.0 (bytes_drop 2 payload all) is.1))
payload_in_bytes group Continue payload redacted before all is = data_bytes (is_of_text group Continue) (payload_of group) payload redacted before all is
payload_in_bytes group Text payload redacted before all is = data_bytes true (payload_of group) payload redacted before all is
payload_in_bytes group _ payload redacted before all is = data_bytes false (payload_of group) payload redacted before all is

-- ---- a stream

module _ (role : Role) (limits : Limits) where
  frames_bytes : (before fs : List Frame) → IsLawful role limits (before ++ fs) → IsBytes (stream fs)
  frames_bytes before [] lawful = tt
  frames_bytes before (f ∷ fs) lawful =
      let law = lawful.each before fs f refl in
      let first = layout_of_frame f law.frame.encoded.encodable in
      IsBytes-append (frame_bytes f) (stream fs) first.in_bytes (frames_bytes (before ++ f ∷ []) fs (subst (IsLawful role limits) (sym (append_assoc before (f ∷ []) fs)) lawful))

  lawful_of : (bytes : List ℕ) (fs : List Frame) (v : Verdict) → IsVerdict role limits bytes fs v → IsLawful role limits fs
  lawful_of bytes fs (Accepted s) is = is.0.lawful
  lawful_of bytes fs (Cut s) is = is.0.lawful
  lawful_of bytes fs (Refused r) is = is.lawful

  judged_in_bytes : (v : Verdict) (bytes : List ℕ) → IsBytes bytes → IsBytes (judged_bytes v bytes)
  judged_in_bytes (Accepted s) bytes all = all
  judged_in_bytes (Cut s) bytes all = all
  judged_in_bytes (Refused r) bytes all = bytes_take (r.offset + 1) bytes all

  rest_in_bytes : (fs : List Frame) (rest redacted : List ℕ) → IsBytes (payload_of (unfinished fs)) → IsBytes rest → IsRedactedRest role limits fs rest redacted → IsBytes redacted
  rest_in_bytes fs rest redacted before all (inl closed) = subst IsBytes (sym closed.1) (zeros_bytes rest)
  rest_in_bytes fs rest redacted before all (inr (inl none)) = subst IsBytes (sym none.2) all
  rest_in_bytes fs rest redacted before all (inr (inr (no_close, is))) =
      let b = is.begins in
      let parts = subst IsBytes b.whole all in
      let payload = wire_payload_bytes is.info.key b.following b.key (IsBytes-right b.head b.following parts) in
      let part = payload_in_bytes (unfinished fs) is.info.op (wire_payload is.info.key b.following) is.part before payload is.is_part in
      subst IsBytes (sym is.redacted_is) (IsBytes-append b.head (wire_payload is.info.key is.part) (IsBytes-left b.head b.following parts) (wire_payload_bytes is.info.key is.part b.key part))

  pub redaction_bytes : (bytes redacted : List ℕ) → IsBytes bytes → IsRedaction role limits bytes redacted → IsBytes redacted
  redaction_bytes bytes redacted all d =
      let fs = d.frames in
      let v = d.verdict in
      let at = d.is in
      let lawful = lawful_of bytes fs v d.is_verdict in
      let stays = frames_stay_lawful role limits fs lawful in
      let same : at.frames ≡ redacted_frames [] fs = one_frames [] fs at.frames (redacted_frames [] fs) at.are_frames (are_redacted role limits [] fs lawful) in
      let frames : IsBytes (stream at.frames) = subst (λ (gs : List Frame). IsBytes (stream gs)) (sym same) (frames_bytes [] (redacted_frames [] fs) stays.lawful) in
      let rest = rest_in_bytes fs (drop (length (stream fs)) (judged_bytes v bytes)) at.rest stays.same.in_bytes (bytes_drop (length (stream fs)) (judged_bytes v bytes) (judged_in_bytes v bytes all)) at.is_rest in
      subst IsBytes (sym at.whole) (IsBytes-append (stream at.frames) (at.rest ++ zeros_for (unjudged v bytes)) frames (IsBytes-append at.rest (zeros_for (unjudged v bytes)) rest (zeros_bytes (unjudged v bytes))))
