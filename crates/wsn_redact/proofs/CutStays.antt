-- The redaction of a cut stream is cut.
use Rattle.std.proofs.Common.{◌≡◌, ℕ, ◌+◌, ◌-◌, ◌≤◌, List, [], ◌∷◌, ◌++◌, length, take, drop, inl, inr, refl, sym, ap, ◌∙◌, subst, append-nil, append_assoc, length-append, take-append-drop, arith}
use Rattle.std.proofs.lemmas.List.{take_all, drop_at, nil_from_length}
use Rattle.wsn_wire.specs.declared.endpoint.Role.{Role}
use Rattle.wsn_wire.specs.declared.refusal.Reason.{Reason}
use Rattle.wsn_wire.specs.Frame.{Frame, IsBytes, stream, wire_payload}
use Rattle.wsn_wire.proofs.FrameLemmas.{IsBytes-left, IsBytes-right, IsBytes-append, fronts_agree, wire_payload_bytes}
use Rattle.wsn_frame.proofs.HeadsAtOnce.{no_items}
use Rattle.wsn_rules.specs.declared.head_info.HeadInfo.{HeadInfo}
use Rattle.wsn_rules.specs.Limits.{Limits}
use Rattle.wsn_rules.specs.Evidence.{Evidence}
use Rattle.wsn_rules.specs.Group.{unfinished}
use Rattle.wsn_rules.specs.Heads.{BeginsWithHead}
use Rattle.wsn_rules.specs.AfterClose.{HasNoClose}
use Rattle.wsn_rules.specs.Lawful.{IsLawful}
use Rattle.wsn_rules.specs.Verdict.{EndsWithinFrame, IsCut}
use Rattle.wsn_rules.specs.Summary.{counted}
use Rattle.wsn_rules.proofs.HeadsGoOn.{begins_longer}
use Rattle.wsn_rules.proofs.BegunHeads.{same_parts, encodable_begun, begun_is}
use Rattle.wsn_rules.proofs.LeastEvident.{evidence_is_some}
use Rattle.wsn_rules.proofs.Prefixes.{append_cancel}
use Rattle.wsn_rules.specs.declared.verdict.Verdict.{Verdict}
use Rattle.wsn_rules.specs.declared.verdict.Verdict.TheVariants.{Cut}
use Rattle.wsn_rules.proofs.OneVerdict.{one_verdict}
use Rattle.wsn_redact.specs.Redaction.{IsRedactedPayload, AreRedacted, IsRedactedRest, IsRedactionAt, IsRedaction, redacted_frames, redacted_payload}
use Rattle.wsn_redact.proofs.OneRedaction.{frames_length}
use Rattle.wsn_redact.proofs.RedactedPayloads.{are_redacted, one_frames, HasText, one_payload, payload_is}
use Rattle.wsn_redact.proofs.QuietPayloads.{within_frame, quiet_text}
use Rattle.wsn_redact.proofs.RedactedVerdicts.{SameGroup, StaysLawful, frames_stay_lawful, no_close_stays, payload_bytes}
use Rattle.wsn_redact.proofs.HeadsAlike.{head_back}
use Rattle.wsn_redact.proofs.PayloadsStay.{text_before_frame, no_payload, written_size, evidence_back}

module _ (role : Role) (limits : Limits) (bytes : List ℕ) (fs gs : List Frame) (c : IsCut role limits bytes fs) (same : SameGroup (unfinished fs) (unfinished gs)) (streams : length (stream gs) ≡ length (stream fs)) where
  abbrev seen : List ℕ
  seen = c.rest

  -- Nothing is evidence.
  quiet : (front after : List ℕ) (s : Reason) → c.rest ≡ front ++ after → Evidence role limits (unfinished fs) s front → ⊥
  quiet front after s is evidence =
      let some = evidence_is_some role limits (unfinished fs) s front evidence in
      c.has_no_evidence ((length (stream fs) + length front) - 1) s (record {
        seen = front;
        later = after;
        whole = c.whole ∙ ap (λ (bs : List ℕ). stream fs ++ bs) is;
        at_offset = omega (arith, some);
        evidence = evidence;
      })

  rest_bytes : IsBytes c.rest
  rest_bytes = let m = c.within in IsBytes-left c.rest m.0 m.2.in_bytes

  -- The same, if no prefix of what was written is evidence.
  cut_by : (rest y : List ℕ) → y ≡ stream gs ++ rest → length rest ≡ length c.rest → EndsWithinFrame rest → ((front after : List ℕ) (s : Reason) → rest ≡ front ++ after → Evidence role limits (unfinished gs) s front → ⊥) → IsLawful role limits gs → HasNoClose gs → IsCut role limits y gs
  cut_by rest y whole size within none lawful no_close = record {
    lawful = lawful;
    no_close = no_close;
    rest = rest;
    whole = whole;
    within = within;
    has_no_evidence = λ p s e. none e.seen e.later s (sym (append_cancel (stream gs) (e.seen ++ e.later) rest (sym e.whole ∙ whole))) e.evidence;
    more = elim c.more [
      | inl some ↦ inl (λ empty. (let count = ap (λ (bs : List ℕ). length bs) empty in some (no_items c.rest (omega (arith, count, size)))))
      | inr some ↦ inr (λ empty. (let count = same.count in let none_now = ap (λ (hs : List Frame). length hs) empty in some (nil_from_length (unfinished fs) (omega (arith, count, none_now)))))
    ];
  }

  -- ---- no valid head begins

  pub without_head : (y : List ℕ) → ((info : HeadInfo) → BeginsWithHead role limits fs c.rest info → ⊥) → y ≡ stream gs ++ c.rest → IsLawful role limits gs → HasNoClose gs → IsCut role limits y gs
  without_head y none whole =
      cut_by c.rest y whole refl c.within (λ front after s is e. quiet front after s is (head_back role limits (unfinished fs) (unfinished gs) same (text_before_frame role limits fs gs c.lawful same streams) s front
      (no_payload role limits fs gs c.lawful same streams c.rest rest_bytes (λ before rest reason split more evidence. quiet before rest reason split evidence) none front after is) e))

  -- ---- a head, and a part of its frame's payload

  module _ (info : HeadInfo) (b : BeginsWithHead role limits fs c.rest info) (part : List ℕ) (is_part : IsRedactedPayload (unfinished fs) info.op (wire_payload info.key b.following) part) where
    within : length b.following ≤ info.len
    within = within_frame role limits fs c.rest info b (c.within)

    abbrev payload : List ℕ
    payload = wire_payload info.key b.following

    abbrev wire : List ℕ
    wire = wire_payload info.key part

    size_of_wire : length wire ≡ length b.following
    size_of_wire = written_size role limits fs gs c.lawful same streams c.rest info b part is_part within

    none_written : (front after : List ℕ) (s : Reason) → b.head ++ wire_payload info.key part ≡ front ++ after → Evidence role limits (unfinished gs) s front → ⊥
    none_written front after s is e =
        let of = evidence_back role limits fs gs c.lawful same streams c.rest info b part is_part within front after s is e in
        quiet of.0 of.1 s of.2 of.4

    -- The bytes written end within the frame.
    ends_within : IsBytes (wire_payload info.key part) → EndsWithinFrame (b.head ++ wire_payload info.key part)
    unfolding begins_longer
    ends_within wire_payload_bytes =
        let m = c.within in
        let missing = m.0 in
        let l = m.2 in
        let longer = begins_longer role limits fs c.rest missing info b in
        let parts = same_parts info longer.following l.first l.second l.len l.key l.payload (encodable_begun role limits fs (c.rest ++ missing) info longer) (sym (begun_is role limits fs (c.rest ++ missing) info longer) ∙ l.whole) l.len_count l.key_counted in
        let front = l.first ∷ l.second ∷ (l.len ++ l.key) in
        let whole : b.head ++ (b.following ++ missing) ≡ front ++ l.payload = sym longer.whole ∙ l.whole ∙ ap (λ (bs : List ℕ). l.first ∷ l.second ∷ bs) (sym (append_assoc l.len l.key l.payload)) in
        let tails = ap (λ (bs : List ℕ). length bs) parts.following_is in
        let sizes : length b.head + length (b.following ++ missing) ≡ length front + length l.payload = sym (length-append b.head (b.following ++ missing)) ∙ ap (λ (bs : List ℕ). length bs) whole ∙ length-append front l.payload in
        let head : b.head ≡ front = (fronts_agree b.head front (b.following ++ missing) l.payload (omega (arith, sizes, tails)) whole).0 in
        let all = subst IsBytes (longer.whole) l.in_bytes in
        let missing_bytes : IsBytes missing = IsBytes-right b.following missing (IsBytes-right b.head (b.following ++ missing) all) in
        let written = wire ++ missing in (
          missing,
          m.1,
          record {
            first = l.first;
            second = l.second;
            len = l.len;
            key = l.key;
            payload = written;
            whole = append_assoc b.head wire missing ∙ ap (λ (bs : List ℕ). bs ++ written) head ∙ ap (λ (bs : List ℕ). l.first ∷ l.second ∷ bs) (append_assoc l.len l.key written);
            in_bytes = IsBytes-append (b.head ++ wire) missing (IsBytes-append b.head wire (IsBytes-left b.head (b.following ++ missing) all) wire_payload_bytes) missing_bytes;
            len_count = l.len_count;
            key_counted = l.key_counted;
            payload_count = (let count = l.payload_count in omega (arith, count, tails, size_of_wire, length-append wire missing, length-append b.following missing));
          },
        )

    -- What was written is bytes.
    written_bytes : IsBytes (wire_payload info.key part)
    written_bytes =
        let own : IsBytes b.following = IsBytes-right b.head b.following (subst IsBytes b.whole rest_bytes) in
        let all : take (length b.following) b.following ≡ b.following = take_all (length b.following) b.following (omega arith) in
        let quiet_all = quiet_text role limits fs c.rest info b c.lawful within (length b.following) (omega arith) (λ n s few e.
        quiet (b.head ++ take n b.following) (drop n b.following) s (b.whole ∙ ap (λ (bs : List ℕ). b.head ++ bs) (sym (take-append-drop n b.following)) ∙ sym (append_assoc b.head (take n b.following) (drop n b.following))) e) in
        let has : HasText (unfinished fs) info.op payload = subst (λ (bs : List ℕ). HasText (unfinished fs) info.op (wire_payload info.key bs)) all quiet_all in
        let is : part ≡ redacted_payload (unfinished fs) info.op payload = one_payload (unfinished fs) info.op payload part (redacted_payload (unfinished fs) info.op payload) is_part (payload_is (unfinished fs) info.op payload has) in
        wire_payload_bytes info.key part b.key (subst IsBytes (sym is) (payload_bytes (unfinished fs) info.op payload same.in_bytes (wire_payload_bytes info.key b.following b.key own)))

    pub with_head : (y : List ℕ) → y ≡ stream gs ++ (b.head ++ wire_payload info.key part) → IsLawful role limits gs → HasNoClose gs → IsCut role limits y gs
    with_head y whole =
        let size = ap (λ (bs : List ℕ). length bs) b.whole in
        cut_by (b.head ++ wire) y whole (omega (arith, size, size_of_wire, length-append b.head wire, length-append b.head b.following)) (ends_within written_bytes) none_written

-- ---- a stream

module _ (role : Role) (limits : Limits) where
  pub cut_stays : (bytes redacted : List ℕ) (fs : List Frame) → IsCut role limits bytes fs → IsRedaction role limits bytes redacted → IsCut role limits redacted (redacted_frames [] fs)
  cut_stays bytes redacted fs is d = by (subst (λ (bs : List ℕ). IsRedactedRest role limits fs bs at.rest) seen_is at.is_rest)
    where
      at : IsRedactionAt role limits bytes fs (Cut (counted fs (length bytes) 0)) redacted
      at =
          let same = one_verdict role limits bytes d.frames fs d.verdict (Cut (counted fs (length bytes) 0)) d.is_verdict (is, refl) in
          subst (λ (w : Verdict). IsRedactionAt role limits bytes fs w redacted) same.1 (subst (λ (hs : List Frame). IsRedactionAt role limits bytes hs d.verdict redacted) same.0 d.is)

      are : AreRedacted [] fs (redacted_frames [] fs)
      are = are_redacted role limits [] fs is.lawful

      whole : redacted ≡ stream (redacted_frames [] fs) ++ at.rest
      whole = at.whole ∙ (λ i. stream (one_frames [] fs at.frames (redacted_frames [] fs) at.are_frames are i) ++ append-nil at.rest i)

      seen_is : drop (length (stream fs)) bytes ≡ is.rest
      seen_is = ap (λ (bs : List ℕ). drop (length (stream fs)) bs) is.whole ∙ drop_at (stream fs) is.rest (length (stream fs)) refl

      stays : StaysLawful role limits [] fs []
      stays = frames_stay_lawful role limits fs is.lawful

      none_closes : HasNoClose (redacted_frames [] fs)
      none_closes = no_close_stays fs is.no_close

      same_size : length (stream (redacted_frames [] fs)) ≡ length (stream fs)
      same_size = frames_length [] fs (redacted_frames [] fs) are

      by : IsRedactedRest role limits fs is.rest at.rest → IsCut role limits redacted (redacted_frames [] fs)
      by (inl closed) = let ends = closed.0 in absurd (is.no_close ends.0 [] ends.1 ends.3 ends.2)
      by (inr (inl none)) = without_head role limits bytes fs (redacted_frames [] fs) is stays.same same_size redacted none.1 (whole ∙ ap (λ (bs : List ℕ). stream (redacted_frames [] fs) ++ bs) none.2) stays.lawful none_closes
      by (inr (inr some)) =
          let b = some.1 in
          with_head role limits bytes fs (redacted_frames [] fs) is stays.same same_size b.info b.begins b.part b.is_part redacted (whole ∙ ap (λ (bs : List ℕ). stream (redacted_frames [] fs) ++ bs) b.redacted_is) stays.lawful none_closes
