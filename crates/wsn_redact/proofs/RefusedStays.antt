-- The redaction of a refused stream is refused at the same offset for the same reason.
use Rattle.std.proofs.Common.{◌≡◌, ℕ, ◌+◌, ◌-◌, ◌<◌, ◌≤◌, List, [], ◌++◌, length, take, drop, inl, inr, refl, sym, ap, ◌∙◌, subst, append-nil, append_assoc, length-append, take-append-drop, arith}
use Rattle.std.proofs.lemmas.Bool.{cases_lt}
use Rattle.std.proofs.lemmas.List.{take_all, take_at, drop_at, take-append-le}
use Rattle.wsn_wire.specs.declared.endpoint.Role.{Role}
use Rattle.wsn_wire.specs.declared.refusal.Reason.{Reason}
use Rattle.wsn_wire.specs.Frame.{Frame, IsBytes, first_byte, stream, wire_payload}
use Rattle.wsn_wire.proofs.FrameLemmas.{IsBytes-left, IsBytes-right, wire_payload_twice}
use Rattle.wsn_frame.proofs.HeadsAtOnce.{no_items}
use Rattle.wsn_rules.specs.declared.head_info.HeadInfo.{HeadInfo}
use Rattle.wsn_rules.specs.Limits.{Limits}
use Rattle.wsn_rules.specs.Evidence.{Evidence, EvidentByPayload}
use Rattle.wsn_rules.specs.Group.{unfinished}
use Rattle.wsn_rules.specs.Heads.{BeginsWithHead}
use Rattle.wsn_rules.specs.AfterClose.{HasNoClose}
use Rattle.wsn_rules.specs.Lawful.{IsLawful}
use Rattle.wsn_rules.specs.Verdict.{IsRefused}
use Rattle.wsn_rules.proofs.LeastEvident.{evidence_is_some}
use Rattle.wsn_rules.proofs.Prefixes.{append_cancel}
use Rattle.wsn_rules.specs.declared.verdict.Verdict.{Verdict}
use Rattle.wsn_rules.specs.declared.verdict.Verdict.TheVariants.{Refused}
use Rattle.wsn_rules.proofs.OneVerdict.{one_verdict}
use Rattle.wsn_redact.specs.Redaction.{zeros_for, IsRedactedPayload, AreRedacted, IsRedactedRest, IsRedactionAt, IsRedaction, redacted_frames}
use Rattle.wsn_redact.proofs.OneRedaction.{frames_length}
use Rattle.wsn_redact.proofs.RedactedPayloads.{are_redacted, one_frames}
use Rattle.wsn_redact.proofs.RefusedEvidence.{in_payload, within_payload}
use Rattle.wsn_redact.proofs.QuietPayloads.{evident}
use Rattle.wsn_redact.proofs.RedactedVerdicts.{SameGroup, StaysLawful, frames_stay_lawful, no_close_stays}
use Rattle.wsn_redact.proofs.PayloadsAlike.{evident_forth}
use Rattle.wsn_redact.proofs.HeadsAlike.{head_forth, head_back}
use Rattle.wsn_redact.proofs.PayloadsStay.{text_before_frame, head_after, no_payload, written_size, frame_begins, frame_text, evidence_back}

module _ (role : Role) (limits : Limits) (bytes : List ℕ) (fs gs : List Frame) (offset : ℕ) (reason : Reason) (r : IsRefused role limits bytes fs offset reason) (in_bytes : IsBytes bytes) (same : SameGroup (unfinished fs) (unfinished gs)) (streams : length (stream gs) ≡ length (stream fs)) where
  abbrev seen : List ℕ
  seen = r.is_evident.seen

  -- Nothing before the offending byte is evidence.
  quiet : (front after : List ℕ) (s : Reason) → r.is_evident.seen ≡ front ++ after → 0 < length after → Evidence role limits (unfinished fs) s front → ⊥
  quiet front after s is before evidence =
      let size : length seen ≡ length front + length after = ap (λ (bs : List ℕ). length bs) is ∙ length-append front after in
      let stops = r.is_evident.at_offset in
      let some = evidence_is_some role limits (unfinished fs) s front evidence in
      elim (r.least ((length (stream fs) + length front) - 1) s (record {
        seen = front;
        later = after ++ r.is_evident.later;
        whole = r.is_evident.whole ∙ ap (λ (bs : List ℕ). stream fs ++ bs) (ap (λ (bs : List ℕ). bs ++ r.is_evident.later) is ∙ append_assoc front after r.is_evident.later);
        at_offset = omega (arith, some);
        evidence = evidence;
      })) [
        | inl less ↦ omega (arith, less, size, stops, before, some)
        | inr here ↦ let at = here.0 in omega (arith, at, size, stops, before, some)
      ]

  -- The same, if evidence in what was written is evidence in as many bytes.
  refused_by : (rest later y : List ℕ) → y ≡ stream gs ++ (rest ++ later) → length rest ≡ length r.is_evident.seen → Evidence role limits (unfinished gs) reason rest
      → ((front after : List ℕ) (s : Reason) → rest ≡ front ++ after → Evidence role limits (unfinished gs) s front → (other : List ℕ) × (tail : List ℕ) × (r.is_evident.seen ≡ other ++ tail) × (length other ≡ length front) × Evidence role limits (unfinished fs) s other)
      → IsLawful role limits gs → HasNoClose gs → IsRefused role limits y gs offset reason
  refused_by rest later y whole size forth back lawful none = record {
    lawful = lawful;
    no_close = none;
    is_evident = record { seen = rest; later = later; whole = whole; at_offset = (let at = r.is_evident.at_offset in omega (arith, at, size, streams)); evidence = forth };
    least = λ p s e. elim (cases_lt offset p) [
      | inl after ↦ inl after
      | inr within ↦
          let at = r.is_evident.at_offset in
          let here = e.at_offset in
          let k = length e.seen in
          let few : k ≤ length rest = omega (arith, at, here, within, size, streams) in
          let both : e.seen ++ e.later ≡ rest ++ later = append_cancel (stream gs) (e.seen ++ e.later) (rest ++ later) (sym e.whole ∙ whole) in
          let front : e.seen ≡ take k rest = sym (take_at e.seen e.later k refl) ∙ ap (λ (bs : List ℕ). take k bs) both ∙ take-append-le k rest later few in
          let split : rest ≡ e.seen ++ drop k rest = sym (take-append-drop k rest) ∙ ap (λ (bs : List ℕ). bs ++ drop k rest) (sym front) in
          let b = back e.seen (drop k rest) s split e.evidence in
          let count = b.3 in
          r.least p s (record {
            seen = b.0;
            later = b.1 ++ r.is_evident.later;
            whole = r.is_evident.whole ∙ ap (λ (bs : List ℕ). stream fs ++ bs) (ap (λ (bs : List ℕ). bs ++ r.is_evident.later) b.2 ∙ append_assoc b.0 b.1 r.is_evident.later);
            at_offset = omega (arith, here, count, streams);
            evidence = b.4;
          })
    ];
  }

  -- ---- no valid head begins

  seen_bytes : IsBytes r.is_evident.seen
  seen_bytes = IsBytes-left r.is_evident.seen r.is_evident.later (IsBytes-right (stream fs) (r.is_evident.seen ++ r.is_evident.later) (subst IsBytes r.is_evident.whole in_bytes))

  pub without_head : (later y : List ℕ) → ((info : HeadInfo) → BeginsWithHead role limits fs r.is_evident.seen info → ⊥) → y ≡ stream gs ++ (r.is_evident.seen ++ later) → IsLawful role limits gs → HasNoClose gs → IsRefused role limits y gs offset reason
  without_head later y none whole =
      refused_by seen later y whole refl (head_forth role limits (unfinished fs) (unfinished gs) same (text_before_frame role limits fs gs r.lawful same streams) reason seen (no_payload role limits fs gs r.lawful same streams r.is_evident.seen seen_bytes quiet none seen [] (sym (append-nil seen))) r.is_evident.evidence)
      (λ front after s is e. (front, after, is, refl, head_back role limits (unfinished fs) (unfinished gs) same (text_before_frame role limits fs gs r.lawful same streams) s front (no_payload role limits fs gs r.lawful same streams r.is_evident.seen seen_bytes quiet none front after is) e))

  -- ---- a head, and a part of its frame's payload

  module _ (info : HeadInfo) (b : BeginsWithHead role limits fs r.is_evident.seen info) (part : List ℕ) (is_part : IsRedactedPayload (unfinished fs) info.op (wire_payload info.key b.following) part) where
    some : 0 < length b.following
    some = elim (cases_lt 0 (length b.following)) [
      | inl more ↦ more
      | inr empty ↦
          let nothing : b.following ≡ [] = no_items b.following (omega (arith, empty)) in
          let head : seen ≡ b.head = b.whole ∙ ap (λ (bs : List ℕ). b.head ++ bs) nothing ∙ append-nil b.head in
          absurd (b.has_no_evidence.none b.head [] reason (sym (append-nil b.head)) (subst (Evidence role limits (unfinished fs) reason) head r.is_evident.evidence))
    ]

    within : length b.following ≤ info.len
    within = within_payload role limits fs r.is_evident.seen info b some reason r.is_evident.evidence

    abbrev payload : List ℕ
    payload = wire_payload info.key b.following

    abbrev wire : List ℕ
    wire = wire_payload info.key part

    size_of_wire : length wire ≡ length b.following
    size_of_wire = written_size role limits fs gs r.lawful same streams r.is_evident.seen info b part is_part within

    all_of : (n : ℕ) (xs : List ℕ) → length xs ≡ n → take n xs ≡ xs
    all_of n xs count = take_all n xs (omega (arith, count))

    forth : Evidence role limits (unfinished gs) reason (b.head ++ wire_payload info.key part)
    unfolding head_after
    forth =
        let n = length b.following in
        let row = in_payload role limits fs seen info b some reason r.is_evident.evidence in
        let written = evident_forth (unfinished fs) (unfinished gs) same info.op (frame_begins role limits fs gs r.lawful same streams r.is_evident.seen info b part is_part within) (frame_text role limits fs gs r.lawful same streams r.is_evident.seen info b part is_part within) payload part is_part info.fin info.len reason row in
        let all : take n wire ≡ wire = all_of n wire size_of_wire in
        let g = head_after role limits fs gs r.lawful same streams r.is_evident.seen info b (take n wire) in
        let count : length (take n wire) ≡ n = ap (λ (bs : List ℕ). length bs) all ∙ size_of_wire in
        let plain : part ≡ wire_payload info.key (take n (take n wire)) = sym (ap (λ (bs : List ℕ). wire_payload info.key bs) (ap (λ (bs : List ℕ). take n bs) all ∙ all) ∙ wire_payload_twice info.key part) in
        let e = evident role limits gs (b.head ++ take n wire) info g (omega (arith, count, within)) n (omega (arith, count)) reason (subst (EvidentByPayload (unfinished gs) reason (first_byte info.fin info.op) info.len) plain written) in
        subst (λ (bs : List ℕ). Evidence role limits (unfinished gs) reason (b.head ++ bs)) (ap (λ (bs : List ℕ). take n bs) all ∙ all) e

    pub with_head : (later y : List ℕ) → y ≡ stream gs ++ ((b.head ++ wire_payload info.key part) ++ later) → IsLawful role limits gs → HasNoClose gs → IsRefused role limits y gs offset reason
    with_head later y whole =
        let size = ap (λ (bs : List ℕ). length bs) b.whole in
        refused_by (b.head ++ wire) later y whole (omega (arith, size, size_of_wire, length-append b.head wire, length-append b.head b.following)) forth (evidence_back role limits fs gs r.lawful same streams r.is_evident.seen info b part is_part within)

-- ---- a stream

module _ (role : Role) (limits : Limits) where
  pub refused_stays : (bytes redacted : List ℕ) (fs : List Frame) (offset : ℕ) (reason : Reason) → IsBytes bytes → IsRefused role limits bytes fs offset reason → IsRedaction role limits bytes redacted → IsRefused role limits redacted (redacted_frames [] fs) offset reason
  refused_stays bytes redacted fs offset reason in_bytes is d = by (subst (λ (bs : List ℕ). IsRedactedRest role limits fs bs at.rest) seen_is at.is_rest)
    where
      v : Verdict
      v = Refused (record { offset = offset; reason = reason })

      at : IsRedactionAt role limits bytes fs (Refused (record { offset = offset; reason = reason })) redacted
      at =
          let same = one_verdict role limits bytes d.frames fs d.verdict (Refused (record { offset = offset; reason = reason })) d.is_verdict is in
          subst (λ (w : Verdict). IsRedactionAt role limits bytes fs w redacted) same.1 (subst (λ (hs : List Frame). IsRedactionAt role limits bytes hs d.verdict redacted) same.0 d.is)

      are : AreRedacted [] fs (redacted_frames [] fs)
      are = are_redacted role limits [] fs is.lawful

      whole : redacted ≡ stream (redacted_frames [] fs) ++ (at.rest ++ zeros_for (drop (offset + 1) bytes))
      whole = at.whole ∙ ap (λ (hs : List Frame). stream hs ++ (at.rest ++ zeros_for (drop (offset + 1) bytes))) (one_frames [] fs at.frames (redacted_frames [] fs) at.are_frames are)

      seen_is : drop (length (stream fs)) (take (offset + 1) bytes) ≡ is.is_evident.seen
      seen_is =
          let e = is.is_evident in
          let all : bytes ≡ (stream fs ++ e.seen) ++ e.later = e.whole ∙ sym (append_assoc (stream fs) e.seen e.later) in
          let stop = e.at_offset in
          ap (λ (bs : List ℕ). drop (length (stream fs)) (take (offset + 1) bs)) all ∙ ap (λ (bs : List ℕ). drop (length (stream fs)) bs) (take_at (stream fs ++ e.seen) e.later (offset + 1) (omega (arith, stop, length-append (stream fs) e.seen))) ∙ drop_at (stream fs) e.seen (length (stream fs)) refl

      stays : StaysLawful role limits [] fs []
      stays = frames_stay_lawful role limits fs is.lawful

      none_closes : HasNoClose (redacted_frames [] fs)
      none_closes = no_close_stays fs is.no_close

      same_size : length (stream (redacted_frames [] fs)) ≡ length (stream fs)
      same_size = frames_length [] fs (redacted_frames [] fs) are

      by : IsRedactedRest role limits fs is.is_evident.seen at.rest → IsRefused role limits redacted (redacted_frames [] fs) offset reason
      by (inl closed) = let ends = closed.0 in absurd (is.no_close ends.0 [] ends.1 ends.3 ends.2)
      by (inr (inl none)) =
          without_head role limits bytes fs (redacted_frames [] fs) offset reason is in_bytes stays.same same_size (zeros_for (drop (offset + 1) bytes)) redacted none.1
          (whole ∙ ap (λ (bs : List ℕ). stream (redacted_frames [] fs) ++ (bs ++ zeros_for (drop (offset + 1) bytes))) none.2) stays.lawful none_closes
      by (inr (inr some)) =
          let b = some.1 in
          with_head role limits bytes fs (redacted_frames [] fs) offset reason is in_bytes stays.same same_size b.info b.begins b.part b.is_part (zeros_for (drop (offset + 1) bytes)) redacted
          (whole ∙ ap (λ (bs : List ℕ). stream (redacted_frames [] fs) ++ (bs ++ zeros_for (drop (offset + 1) bytes))) b.redacted_is) stays.lawful none_closes
