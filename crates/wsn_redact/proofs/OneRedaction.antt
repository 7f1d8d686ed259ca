-- A stream has one redaction at most, and it has as many bytes.
use Rattle.std.proofs.Common.{◌≡◌, ℕ, ◌+◌, ◌≤◌, List, [], ◌∷◌, ◌++◌, length, take, drop, inl, inr, refl, sym, ap, ◌∙◌, subst, length-append, length-drop, length-take-le, arith}
use Rattle.wsn_wire.specs.declared.endpoint.Role.{Role}
use Rattle.wsn_wire.specs.Frame.{Frame, frame_bytes, head_bytes, stream, wire_payload}
use Rattle.wsn_wire.proofs.FrameLemmas.{length-wire_payload}
use Rattle.wsn_rules.specs.declared.head_info.HeadInfo.{HeadInfo}
use Rattle.wsn_rules.specs.declared.verdict.Verdict.{Verdict}
use Rattle.wsn_rules.specs.declared.verdict.Verdict.TheVariants.{Accepted, Cut, Refused}
use Rattle.wsn_rules.specs.Limits.{Limits}
use Rattle.wsn_rules.specs.AfterClose.{HasNoClose, EndsWithClose}
use Rattle.wsn_rules.specs.Group.{unfinished}
use Rattle.wsn_rules.specs.Verdict.{IsVerdict, judged_bytes}
use Rattle.wsn_rules.proofs.OneHead.{one_begun}
use Rattle.wsn_rules.proofs.OneVerdict.{all_of_verdict, one_verdict}
use Rattle.wsn_rules.proofs.Prefixes.{append_cancel}
use Rattle.wsn_redact.specs.Redaction.{zeros_for, IsRedactedPayload, with_payload, AreRedacted, IsRedactedBegun, IsRedactedRest, unjudged, IsRedactionAt, IsRedaction}
use Rattle.wsn_redact.proofs.RedactedPayloads.{length-zeros, one_payload, payload_length, one_frames}

-- ---- as many bytes

pub frame_length : (f : Frame) (payload : List ℕ) → length payload ≡ length f.payload → length (frame_bytes (with_payload f payload)) ≡ length (frame_bytes f)
frame_length f payload same =
    let head : head_bytes f.fin f.op f.key f.form (length payload) ≡ head_bytes f.fin f.op f.key f.form (length f.payload) = ap (λ (n : ℕ). head_bytes f.fin f.op f.key f.form n) same in
    let size = ap (λ (bs : List ℕ). length bs) head in
    let mine = length-append (head_bytes f.fin f.op f.key f.form (length payload)) (wire_payload f.key payload) in
    let its = length-append (head_bytes f.fin f.op f.key f.form (length f.payload)) (wire_payload f.key f.payload) in
    omega (arith, same, size, mine, its, length-wire_payload f.key payload, length-wire_payload f.key f.payload)

pub frames_length : (before fs gs : List Frame) → AreRedacted before fs gs → length (stream gs) ≡ length (stream fs)
frames_length before [] [] are = refl
frames_length before (f ∷ fs) (g ∷ gs) are =
    let payload = payload_length (unfinished before) f.op f.payload g.payload are.1 in
    let first : length (frame_bytes g) ≡ length (frame_bytes f) = ap (λ (h : Frame). length (frame_bytes h)) are.0 ∙ frame_length f g.payload payload in
    let rest = frames_length (before ++ f ∷ []) fs gs are.2 in
    omega (arith, first, rest, length-append (frame_bytes g) (stream gs), length-append (frame_bytes f) (stream fs))
frames_length before _ _ are = absurd are

module _ (role : Role) (limits : Limits) where
  pub rest_length : (fs : List Frame) (rest redacted : List ℕ) → IsRedactedRest role limits fs rest redacted → length redacted ≡ length rest
  rest_length fs rest redacted (inl closed) = ap (λ (bs : List ℕ). length bs) closed.1 ∙ length-zeros rest
  rest_length fs rest redacted (inr (inl none)) = ap (λ (bs : List ℕ). length bs) none.2
  rest_length fs rest redacted (inr (inr (no_close, is))) =
      let b = is.begins in
      let info = is.info in
      let part = payload_length (unfinished fs) info.op (wire_payload info.key b.following) is.part is.is_part in
      let all = ap (λ (bs : List ℕ). length bs) is.redacted_is in
      let whole = ap (λ (bs : List ℕ). length bs) b.whole in
      omega (arith, part, all, whole, length-append b.head (wire_payload info.key is.part), length-append b.head b.following, length-wire_payload info.key is.part, length-wire_payload info.key b.following)

  all_bytes : (bytes : List ℕ) (fs : List Frame) (v : Verdict) → IsVerdict role limits bytes fs v → length (stream fs) + (length (drop (length (stream fs)) (judged_bytes v bytes)) + length (unjudged v bytes)) ≡ length bytes
  all_bytes bytes fs (Accepted s) is =
      let all = all_of_verdict role limits bytes fs (Accepted s) is in
      let size = ap (λ (bs : List ℕ). length bs) all.whole in
      omega (arith, size, length-append (stream fs) all.rest, length-drop (length (stream fs)) bytes)
  all_bytes bytes fs (Cut s) is =
      let all = all_of_verdict role limits bytes fs (Cut s) is in
      let size = ap (λ (bs : List ℕ). length bs) all.whole in
      omega (arith, size, length-append (stream fs) all.rest, length-drop (length (stream fs)) bytes)
  all_bytes bytes fs (Refused r) is =
      let e = is.is_evident in
      let size = ap (λ (bs : List ℕ). length bs) e.whole in
      let offset = e.at_offset in
      let within : r.offset + 1 ≤ length bytes = omega (arith, size, offset, length-append (stream fs) (e.seen ++ e.later), length-append e.seen e.later) in
      let n = length (stream fs) in
      let front = take (r.offset + 1) bytes in
      omega (arith, within, offset, length-take-le (r.offset + 1) bytes within, length-drop n front, length-drop (r.offset + 1) bytes)

  pub redaction_length : (bytes redacted : List ℕ) → IsRedaction role limits bytes redacted → length redacted ≡ length bytes
  redaction_length bytes redacted r =
      let fs = r.frames in
      let v = r.verdict in
      let is = r.is in
      let frames = frames_length [] fs is.frames is.are_frames in
      let rest = rest_length fs (drop (length (stream fs)) (judged_bytes v bytes)) is.rest is.is_rest in
      let all = all_bytes bytes fs v r.is_verdict in
      let whole = ap (λ (bs : List ℕ). length bs) is.whole in
      omega (arith, frames, rest, all, whole, length-append (stream is.frames) (is.rest ++ zeros_for (unjudged v bytes)), length-append is.rest (zeros_for (unjudged v bytes)), length-zeros (unjudged v bytes))

  -- ---- one redaction

  closed_or_not : (fs : List Frame) → EndsWithClose fs → HasNoClose fs → ⊥
  closed_or_not fs closed none = none closed.0 [] closed.1 closed.3 closed.2

  begun_is_one : (fs : List Frame) (rest redacted other : List ℕ) → IsRedactedBegun role limits fs rest redacted → IsRedactedBegun role limits fs rest other → redacted ≡ other
  begun_is_one fs rest redacted other is also =
      let info_is : is.info ≡ also.info = one_begun role limits fs rest is.info also.info is.begins also.begins in
      let b = is.begins in
      let c = also.begins in
      let head : b.head ≡ c.head = b.encoded ∙ ap (λ (i : HeadInfo). head_bytes i.fin i.op i.key i.form i.len) info_is ∙ sym c.encoded in
      let following : b.following ≡ c.following = append_cancel c.head b.following c.following (ap (λ (bs : List ℕ). bs ++ b.following) (sym head) ∙ sym b.whole ∙ c.whole) in
      let own : wire_payload is.info.key b.following ≡ wire_payload also.info.key c.following = λ i. wire_payload (info_is i).key (following i) in
      let it : IsRedactedPayload (unfinished fs) also.info.op (wire_payload also.info.key c.following) is.part =
      subst (λ (bs : List ℕ). IsRedactedPayload (unfinished fs) also.info.op bs is.part) own (subst (λ (i : HeadInfo). IsRedactedPayload (unfinished fs) i.op (wire_payload is.info.key b.following) is.part) info_is is.is_part) in
      let part : is.part ≡ also.part = one_payload (unfinished fs) also.info.op (wire_payload also.info.key c.following) is.part also.part it also.is_part in
      is.redacted_is ∙ (λ i. head i ++ wire_payload (info_is i).key (part i)) ∙ sym also.redacted_is

  pub rest_is_one : (fs : List Frame) (rest redacted other : List ℕ) → IsRedactedRest role limits fs rest redacted → IsRedactedRest role limits fs rest other → redacted ≡ other
  rest_is_one fs rest redacted other (inl closed) (inl also) = closed.1 ∙ sym also.1
  rest_is_one fs rest redacted other (inl closed) (inr (inl also)) = absurd (closed_or_not fs closed.0 also.0)
  rest_is_one fs rest redacted other (inl closed) (inr (inr also)) = absurd (closed_or_not fs closed.0 also.0)
  rest_is_one fs rest redacted other (inr (inl none)) (inl also) = absurd (closed_or_not fs also.0 none.0)
  rest_is_one fs rest redacted other (inr (inl none)) (inr (inl also)) = none.2 ∙ sym also.2
  rest_is_one fs rest redacted other (inr (inl none)) (inr (inr also)) = absurd (none.1 also.1.info also.1.begins)
  rest_is_one fs rest redacted other (inr (inr some)) (inl also) = absurd (closed_or_not fs also.0 some.0)
  rest_is_one fs rest redacted other (inr (inr some)) (inr (inl also)) = absurd (also.1 some.1.info some.1.begins)
  rest_is_one fs rest redacted other (inr (inr some)) (inr (inr also)) = begun_is_one fs rest redacted other some.1 also.1

  at_is_one : (bytes redacted other : List ℕ) (fs : List Frame) (v : Verdict) → IsRedactionAt role limits bytes fs v redacted → IsRedactionAt role limits bytes fs v other → redacted ≡ other
  at_is_one bytes redacted other fs v is also =
      let frames = one_frames [] fs is.frames also.frames is.are_frames also.are_frames in
      let rest = rest_is_one fs (drop (length (stream fs)) (judged_bytes v bytes)) is.rest also.rest is.is_rest also.is_rest in
      is.whole ∙ (λ i. stream (frames i) ++ (rest i ++ zeros_for (unjudged v bytes))) ∙ sym also.whole

  pub one_redaction : (bytes redacted other : List ℕ) → IsRedaction role limits bytes redacted → IsRedaction role limits bytes other → redacted ≡ other
  one_redaction bytes redacted other r s =
      let same = one_verdict role limits bytes r.frames s.frames r.verdict s.verdict r.is_verdict s.is_verdict in
      at_is_one bytes redacted other s.frames s.verdict
      (subst (λ (v : Verdict). IsRedactionAt role limits bytes s.frames v redacted) same.1 (subst (λ (fs : List Frame). IsRedactionAt role limits bytes fs r.verdict redacted) same.0 r.is)) s.is
