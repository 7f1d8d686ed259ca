-- The evidence that bytes can be, by how far they go into a frame.
use Rattle.std.proofs.Common.{◌≡◌, ℕ, ◌+◌, ◌<◌, List, [], ◌∷◌, ◌++◌, ◌⊎◌, length, sym, ap, ◌∙◌, subst, inl, inr, arith}
use Rattle.std.proofs.lemmas.List.{length-append}
use Rattle.wsn_wire.specs.declared.endpoint.Role.{Role}
use Rattle.wsn_wire.specs.declared.refusal.Reason.{Reason}
use Rattle.wsn_wire.specs.Frame.{Frame}
use Rattle.wsn_wire.specs.ReceivedHead.{len_form_at, length_count, encoded_length, key_count}
use Rattle.wsn_wire.specs.EvidenceInHeads.{EvidentInSecond}
use Rattle.wsn_rules.specs.Limits.{Limits}
use Rattle.wsn_rules.specs.Evidence.{Evidence, EvidentByLength, EvidentByPayload, unmasked}
use Rattle.wsn_rules.specs.Evidence.Evidence.{ByFirst, BySecond, ByLength, ByPayload}
use Rattle.wsn_rules.proofs.Prefixes.{head_same, tail_same, nil-cons, same_front}

module _ (role : Role) (limits : Limits) (group : List Frame) (reason : Reason) where
  pub no_bytes : Evidence role limits group reason [] → ⊥
  no_bytes (ByFirst first is row) = nil-cons first [] is
  no_bytes (BySecond first second is row) = nil-cons first (second ∷ []) is
  no_bytes (ByLength first second len is count row) = nil-cons first (second ∷ len) is
  no_bytes (ByPayload p row) = nil-cons p.first (p.second ∷ (p.len ++ (p.key ++ p.wire))) p.whole

  -- The bytes after the second byte, if the head is complete.
  pub record PayloadBehind (first second : ℕ) (following : List ℕ) : Type 0 where
    pub len : List ℕ
    pub key : List ℕ
    pub wire : List ℕ
    pub whole : following ≡ len ++ (key ++ wire)
    pub len_count : length len ≡ length_count (len_form_at second)
    pub key_counted : length key ≡ key_count second
    pub row : EvidentByPayload group reason first (encoded_length (len_form_at second) len) (unmasked second key wire)

  -- Two bytes or more: the second byte, the last length byte, or the payload so far.
  abbrev pub ShownBehind : ℕ → ℕ → List ℕ → Type 0
  ShownBehind first second following =
      ((following ≡ []) × EvidentInSecond role reason first second)
      ⊎ (((length following ≡ length_count (len_form_at second)) × EvidentByLength limits group reason first second following)
      ⊎ PayloadBehind first second following)

  pub evident_after : (first second : ℕ) (following : List ℕ) → Evidence role limits group reason (first ∷ second ∷ following) → ShownBehind first second following
  evident_after first second following (ByFirst b is row) = absurd (nil-cons second following (sym (tail_same first b (second ∷ following) [] is)))
  evident_after first second following (BySecond b c is row) =
      let tails = tail_same first b (second ∷ following) (c ∷ []) is in
      inl (tail_same second c following [] tails, subst (λ (n : ℕ). EvidentInSecond role reason n second) (sym (head_same first b (second ∷ following) (c ∷ []) is)) (subst (λ (n : ℕ). EvidentInSecond role reason b n) (sym (head_same second c following [] tails)) row))
  evident_after first second following (ByLength b c len is count row) =
      let tails = tail_same first b (second ∷ following) (c ∷ len) is in
      let seconds = head_same second c following len tails in
      let lens = tail_same second c following len tails in
      inr (inl (
        ap (λ (bs : List ℕ). length bs) lens ∙ count ∙ ap (λ (n : ℕ). length_count (len_form_at n)) (sym seconds),
        subst (λ (n : ℕ). EvidentByLength limits group reason n second following) (sym (head_same first b (second ∷ following) (c ∷ len) is))
            (subst (λ (n : ℕ). EvidentByLength limits group reason b n following) (sym seconds)
            (subst (λ (bs : List ℕ). EvidentByLength limits group reason b c bs) (sym lens) row)),
      ))
  evident_after first second following (ByPayload p row) =
      let theirs = p.len ++ (p.key ++ p.wire) in
      let tails = tail_same first p.first (second ∷ following) (p.second ∷ theirs) p.whole in
      let seconds = head_same second p.second following theirs tails in
      inr (inr (record {
        len = p.len;
        key = p.key;
        wire = p.wire;
        whole = tail_same second p.second following theirs tails;
        len_count = p.len_count ∙ ap (λ (n : ℕ). length_count (len_form_at n)) (sym seconds);
        key_counted = p.key_counted ∙ ap key_count (sym seconds);
        row =
            subst (λ (n : ℕ). EvidentByPayload group reason n (encoded_length (len_form_at second) p.len) (unmasked second p.key p.wire)) (sym (head_same first p.first (second ∷ following) (p.second ∷ theirs) p.whole))
            (subst (λ (n : ℕ). EvidentByPayload group reason p.first (encoded_length (len_form_at n) p.len) (unmasked n p.key p.wire)) (sym seconds) row);
      }))

  -- After the length, only the payload so far.
  pub payload_shows : (first second : ℕ) (len key wire : List ℕ) → length len ≡ length_count (len_form_at second) → length key ≡ key_count second → 0 < length key + length wire →
      Evidence role limits group reason (first ∷ second ∷ (len ++ (key ++ wire))) → EvidentByPayload group reason first (encoded_length (len_form_at second) len) (unmasked second key wire)
  payload_shows first second len key wire count keyed some e =
      let all = length-append len (key ++ wire) in
      let inner = length-append key wire in
      elim (evident_after first second (len ++ (key ++ wire)) e) [
        | inl p ↦ absurd (omega (arith, ap (λ (bs : List ℕ). length bs) p.0))
        | inr q ↦ elim q [
          | inl p ↦ absurd (omega (arith, p.0))
          | inr p ↦
              let lens = same_front len p.len (key ++ wire) (p.key ++ p.wire) (count ∙ sym p.len_count) p.whole in
              let keys = same_front key p.key wire p.wire (keyed ∙ sym p.key_counted) lens.1 in
              subst (λ (bs : List ℕ). EvidentByPayload group reason first (encoded_length (len_form_at second) bs) (unmasked second key wire)) (sym lens.0)
              (subst (λ (bs : List ℕ). EvidentByPayload group reason first (encoded_length (len_form_at second) p.len) (unmasked second bs wire)) (sym keys.0)
              (subst (λ (bs : List ℕ). EvidentByPayload group reason first (encoded_length (len_form_at second) p.len) (unmasked second p.key bs)) (sym keys.1) p.row))
        ]
      ]
