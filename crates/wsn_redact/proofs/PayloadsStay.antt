-- What a redaction keeps of a head and of the evidence in a frame's payload.
use Rattle.std.proofs.Common.{◌≡◌, ℕ, ◌+◌, ◌-◌, ◌<◌, ◌≤◌, true, List, [], ◌∷◌, ◌++◌, length, take, drop, inl, inr, refl, sym, ap, ◌∙◌, subst, append-nil, append_assoc, length-append, take-append-drop, arith}
use Rattle.std.proofs.lemmas.Bool.{cases_lt}
use Rattle.std.proofs.lemmas.List.{take_all, take_at, take-append-le, length-take-le}
use Rattle.std.proofs.Math.Seq.{take-append-add}
use Rattle.wsn_wire.specs.declared.endpoint.Role.{Role}
use Rattle.wsn_wire.specs.declared.refusal.Reason.{Reason}
use Rattle.wsn_wire.specs.Frame.{Frame, IsBytes, first_byte, head_bytes, stream, wire_payload}
use Rattle.wsn_wire.proofs.FrameLemmas.{length-wire_payload, wire_payload_twice}
use Rattle.wsn_text.specs.Utf8.{BeginsText}
use Rattle.wsn_text.proofs.Prefixes.{begins-nil}
use Rattle.wsn_frame.proofs.HeadsAtOnce.{no_items}
use Rattle.wsn_rules.specs.declared.head_info.HeadInfo.{HeadInfo}
use Rattle.wsn_rules.specs.Limits.{Limits}
use Rattle.wsn_rules.specs.Evidence.{Evidence, IntoPayload, EvidentByPayload, IsOfText}
use Rattle.wsn_rules.specs.Group.{unfinished, payload_of}
use Rattle.wsn_rules.specs.Heads.{BeginsWithHead}
use Rattle.wsn_redact.proofs.KeptParts.{MayBegin}
use Rattle.wsn_rules.specs.Lawful.{IsLawful}
use Rattle.wsn_rules.proofs.BegunHeads.{same_parts, encodable_begun}
use Rattle.wsn_rules.proofs.EveryShown.{whole_head}
use Rattle.wsn_rules.proofs.Groups.{IsGroup, group_of_lawful}
use Rattle.wsn_redact.specs.Redaction.{is_of_text, IsRedactedPayload}
use Rattle.wsn_redact.proofs.RedactedPayloads.{payload_length}
use Rattle.wsn_redact.proofs.RedactedSteps.{may_begun}
use Rattle.wsn_redact.proofs.RefusedEvidence.{in_payload}
use Rattle.wsn_redact.proofs.QuietPayloads.{take_wire, evident, group_begins}
use Rattle.wsn_redact.proofs.RedactedVerdicts.{SameGroup}
use Rattle.wsn_redact.proofs.PayloadsAlike.{evident_back}
use Rattle.wsn_redact.proofs.HeadsAlike.{head_forth, head_back, payload_prefix}

module _ (role : Role) (limits : Limits) (fs gs : List Frame) (lawful : IsLawful role limits fs) (same : SameGroup (unfinished fs) (unfinished gs)) (streams : length (stream gs) ≡ length (stream fs)) where
  pub text_before_frame : (n : ℕ) → IsOfText (unfinished fs) n → BeginsText (payload_of (unfinished fs))
  text_before_frame n is = by (unfinished fs) (group_of_lawful role limits fs lawful) is
    where
      by : (group : List Frame) → IsGroup limits group → IsOfText group n → BeginsText (payload_of group)
      by [] g of_text = begins-nil
      by (f ∷ group) g of_text = g.begins of_text.1

  -- A prefix of a head has no payload.
  pub head_only : (hs : List Frame) (rest : List ℕ) (info : HeadInfo) (b : BeginsWithHead role limits hs rest info) (front after : List ℕ) → b.head ≡ front ++ after → (p : IntoPayload front) → p.wire ≡ []
  head_only hs rest info b front after is p =
      let whole : head_bytes info.fin info.op info.key info.form info.len ++ [] ≡ p.first ∷ p.second ∷ (p.len ++ (p.key ++ (p.wire ++ after))) =
      append-nil (head_bytes info.fin info.op info.key info.form info.len) ∙ sym b.encoded ∙ is ∙ ap (λ (bs : List ℕ). bs ++ after) p.whole
      ∙ ap (λ (bs : List ℕ). p.first ∷ p.second ∷ bs) (append_assoc p.len (p.key ++ p.wire) after ∙ ap (λ (bs : List ℕ). p.len ++ bs) (append_assoc p.key p.wire after)) in
      let parts = same_parts info [] p.first p.second p.len p.key (p.wire ++ after) (encodable_begun role limits hs rest info b) whole p.len_count p.key_counted in
      let size = ap (λ (bs : List ℕ). length bs) parts.following_is in
      no_items p.wire (omega (arith, size, length-append p.wire after))

  -- A head that begins after the redacted frames begins after the frames.
  pub head_before : (rest : List ℕ) (info : HeadInfo) → BeginsWithHead role limits gs rest info → BeginsWithHead role limits fs rest info
  head_before rest info g = record {
    head = g.head;
    following = g.following;
    whole = g.whole;
    offset = g.offset ∙ streams;
    encoded = g.encoded;
    key = g.key;
    form = g.form;
    size = g.size;
    has_no_evidence = record {
      none = λ front after s is e. g.has_no_evidence.none front after s is (head_forth role limits (unfinished fs) (unfinished gs) same text_before_frame s front (head_only gs rest info g front after is) e);
    };
  }

  -- The other way round, whatever follows it.
  unfoldable pub head_after : (rest : List ℕ) (info : HeadInfo) (b : BeginsWithHead role limits fs rest info) (following : List ℕ) → BeginsWithHead role limits gs (b.head ++ following) info
  head_after rest info b following = record {
    head = b.head;
    following = following;
    whole = refl;
    offset = b.offset ∙ sym streams;
    encoded = b.encoded;
    key = b.key;
    form = b.form;
    size = b.size;
    has_no_evidence = record {
      none = λ front after s is e. b.has_no_evidence.none front after s is (head_back role limits (unfinished fs) (unfinished gs) same text_before_frame s front (head_only fs rest info b front after is) e);
    };
  }

  pub no_payload : (seen : List ℕ) → IsBytes seen → ((front after : List ℕ) (s : Reason) → seen ≡ front ++ after → 0 < length after → Evidence role limits (unfinished fs) s front → ⊥)
      → ((info : HeadInfo) → BeginsWithHead role limits fs seen info → ⊥) → (front after : List ℕ) → seen ≡ front ++ after → (p : IntoPayload front) → p.wire ≡ []
  no_payload seen seen_bytes quiet none front after is p = elim (cases_lt 0 (length p.wire)) [
    | inr empty ↦ no_items p.wire (omega (arith, empty))
    | inl more ↦
        let head = p.first ∷ p.second ∷ (p.len ++ p.key) in
        let following = p.wire ++ after in
        let joined : seen ≡ p.first ∷ p.second ∷ (p.len ++ (p.key ++ following)) =
        is ∙ ap (λ (bs : List ℕ). bs ++ after) p.whole ∙ ap (λ (bs : List ℕ). p.first ∷ p.second ∷ bs) (append_assoc p.len (p.key ++ p.wire) after ∙ ap (λ (bs : List ℕ). p.len ++ bs) (append_assoc p.key p.wire after)) in
        let split : seen ≡ head ++ following = joined ∙ ap (λ (bs : List ℕ). p.first ∷ p.second ∷ bs) (sym (append_assoc p.len p.key following)) in
        let h = whole_head role limits fs p.first p.second p.len p.key following (subst IsBytes joined seen_bytes) p.len_count p.key_counted
        (λ m s fits evidence.
        quiet (take m head) (drop m head ++ following) s (split ∙ ap (λ (bs : List ℕ). bs ++ following) (sym (take-append-drop m head)) ∙ append_assoc (take m head) (drop m head) following)
        (omega (arith, more, length-append (drop m head) following, length-append p.wire after)) evidence) in
        absurd (none h.0 (subst (λ (bs : List ℕ). BeginsWithHead role limits fs bs h.0) (sym joined) h.1))
  ]

  -- ---- a head, and a part of its frame's payload

  module _ (seen : List ℕ) (info : HeadInfo) (b : BeginsWithHead role limits fs seen info) (part : List ℕ) (is_part : IsRedactedPayload (unfinished fs) info.op (wire_payload info.key b.following) part) (within : length b.following ≤ info.len) where
    abbrev payload : List ℕ
    payload = wire_payload info.key b.following

    abbrev wire : List ℕ
    wire = wire_payload info.key part

    size_of_part : length part ≡ length b.following
    size_of_part = payload_length (unfinished fs) info.op (wire_payload info.key b.following) part is_part ∙ length-wire_payload info.key b.following

    pub written_size : length (wire_payload info.key part) ≡ length b.following
    written_size = length-wire_payload info.key part ∙ size_of_part

    pub frame_begins : MayBegin (unfinished fs) info.op
    frame_begins = may_begun role limits fs seen info b

    pub frame_text : is_of_text (unfinished fs) info.op ≡ true → BeginsText (payload_of (unfinished fs))
    frame_text is = group_begins limits (unfinished fs) info.op frame_begins (group_of_lawful role limits fs lawful) is

    -- What was written for the first n bytes of the payload, unmasked.
    part_prefix : (n : ℕ) → n ≤ length b.following → wire_payload info.key (take n (wire_payload info.key part)) ≡ take n part
    part_prefix n few = sym (take_wire info.key n (wire_payload info.key part) (omega (arith, few, written_size))) ∙ ap (λ (bs : List ℕ). take n bs) (wire_payload_twice info.key part)

    -- Evidence in the first n bytes of what was written for the payload.
    payload_back : (n : ℕ) → 0 < n → n ≤ length b.following → (s : Reason) → Evidence role limits (unfinished gs) s (b.head ++ take n (wire_payload info.key part)) → Evidence role limits (unfinished fs) s (b.head ++ take n b.following)
    unfolding head_after
    payload_back n more few s e =
        let g = head_after seen info b (take n wire) in
        let count : length (take n wire) ≡ n = length-take-le n wire (omega (arith, few, written_size)) in
        let row = in_payload role limits gs (b.head ++ take n wire) info g (omega (arith, count, more)) s e in
        let plain = subst (EvidentByPayload (unfinished gs) s (first_byte info.fin info.op) info.len) (part_prefix n few) row in
        let own : EvidentByPayload (unfinished fs) s (first_byte info.fin info.op) info.len (take n payload) = elim (cases_lt n (length b.following)) [
          | inl less ↦
              evident_back (unfinished fs) (unfinished gs) same info.op frame_begins frame_text (take n payload) (take n part)
              (payload_prefix n (unfinished fs) info.op payload part (omega (arith, less, length-wire_payload info.key b.following)) is_part) info.fin info.len s plain
          | inr full ↦
              let whole_part : take n part ≡ part = take_all n part (omega (arith, full, size_of_part)) in
              let whole_payload : take n payload ≡ payload = take_all n payload (omega (arith, full, length-wire_payload info.key b.following)) in
              subst (EvidentByPayload (unfinished fs) s (first_byte info.fin info.op) info.len) (sym whole_payload)
              (evident_back (unfinished fs) (unfinished gs) same info.op frame_begins frame_text payload part is_part info.fin info.len s (subst (EvidentByPayload (unfinished gs) s (first_byte info.fin info.op) info.len) whole_part plain))
        ] in
        evident role limits fs seen info b within n few s (subst (EvidentByPayload (unfinished fs) s (first_byte info.fin info.op) info.len) (take_wire info.key n b.following few) own)

    pub evidence_back : (front after : List ℕ) (s : Reason) → b.head ++ wire_payload info.key part ≡ front ++ after → Evidence role limits (unfinished gs) s front → (other : List ℕ) × (tail : List ℕ) × (seen ≡ other ++ tail) × (length other ≡ length front) × Evidence role limits (unfinished fs) s other
    evidence_back front after s is e =
        let k = length front in
        let total = ap (λ (bs : List ℕ). length bs) is in
        let most : k ≤ length b.head + length b.following = omega (arith, total, written_size, length-append b.head wire, length-append front after) in
        let front_is : front ≡ take k (b.head ++ wire) = sym (take_at front after k refl) ∙ ap (λ (bs : List ℕ). take k bs) (sym is) in
        elim (cases_lt (length b.head) k) [
          | inr short ↦
              let own : front ≡ take k b.head = front_is ∙ take-append-le k b.head wire short in
              let split : b.head ≡ front ++ drop k b.head = sym (take-append-drop k b.head) ∙ ap (λ (bs : List ℕ). bs ++ drop k b.head) (sym own) in
              absurd (b.has_no_evidence.none front (drop k b.head) s split (head_back role limits (unfinished fs) (unfinished gs) same text_before_frame s front (head_only fs seen info b front (drop k b.head) split) e))
          | inl long ↦
              let n = k - length b.head in
              let sum : k ≡ length b.head + n = omega (arith, long) in
              let own : front ≡ b.head ++ take n wire = front_is ∙ ap (λ (m : ℕ). take m (b.head ++ wire)) sum ∙ take-append-add b.head wire n in
              let few : n ≤ length b.following = omega (arith, most, long) in (
                b.head ++ take n b.following,
                drop n b.following,
                b.whole ∙ ap (λ (bs : List ℕ). b.head ++ bs) (sym (take-append-drop n b.following)) ∙ sym (append_assoc b.head (take n b.following) (drop n b.following)),
                length-append b.head (take n b.following) ∙ ap (λ (m : ℕ). length b.head + m) (length-take-le n b.following few) ∙ sym sum,
                payload_back n (omega (arith, long)) few s (subst (Evidence role limits (unfinished gs) s) own e),
              )
        ]
