-- Whether bytes, or a prefix of bytes, are evidence for a refusal is decided.
use Rattle.std.proofs.Common.{◌≡◌, ℕ, ◌+◌, ◌<◌, ◌≤◌, List, [], ◌∷◌, ◌++◌, length, take, drop, refl, sym, ap, ◌∙◌, subst, inl, inr, arith}
use Rattle.wsn_text.proofs.Numbers.{less_or_not, same_or_not}
use Rattle.std.proofs.lemmas.List.{take-append-drop, length-take-le, length-append}
use Rattle.wsn_wire.specs.declared.endpoint.Role.{Role}
use Rattle.wsn_wire.specs.declared.refusal.Reason.{Reason}
use Rattle.wsn_wire.specs.Frame.{Frame}
use Rattle.wsn_wire.specs.ReceivedHead.{len_form_at, length_count, encoded_length, key_count}
use Rattle.wsn_wire.specs.EvidenceInHeads.{EvidentInSecond}
use Rattle.wsn_rules.specs.Limits.{Limits}
use Rattle.wsn_rules.specs.Evidence.{Evidence, EvidentByFirst, EvidentByLength, EvidentByPayload, IntoPayload, unmasked}
use Rattle.wsn_rules.specs.Evidence.Evidence.{ByFirst, BySecond, ByLength, ByPayload}
use Rattle.wsn_rules.proofs.Prefixes.{head_same, tail_same, nil-cons, same_front}
use Rattle.wsn_rules.proofs.DecidedRows.{Decided, by_first, by_second, by_length, by_payload}

-- ---- the head and the payload so far

-- Two readings of the same bytes agree.
pub record SameInto {seen : List ℕ} (p q : IntoPayload seen) : Type 0 where
  pub first : p.first ≡ q.first
  pub second : p.second ≡ q.second
  pub len : p.len ≡ q.len
  pub key : p.key ≡ q.key
  pub wire : p.wire ≡ q.wire

same_into : (seen : List ℕ) (p q : IntoPayload seen) → SameInto p q
same_into seen p q =
    let mine = p.len ++ (p.key ++ p.wire) in
    let other = q.len ++ (q.key ++ q.wire) in
    let same : p.first ∷ p.second ∷ mine ≡ q.first ∷ q.second ∷ other = sym p.whole ∙ q.whole in
    let firsts = head_same p.first q.first (p.second ∷ mine) (q.second ∷ other) same in
    let tails = tail_same p.first q.first (p.second ∷ mine) (q.second ∷ other) same in
    let seconds = head_same p.second q.second mine other tails in
    let len_counts : length p.len ≡ length q.len = p.len_count ∙ ap (λ (b : ℕ). length_count (len_form_at b)) seconds ∙ sym q.len_count in
    let lens = same_front p.len q.len (p.key ++ p.wire) (q.key ++ q.wire) len_counts (tail_same p.second q.second mine other tails) in
    let key_counts : length p.key ≡ length q.key = p.key_counted ∙ ap key_count seconds ∙ sym q.key_counted in
    let keys = same_front p.key q.key p.wire q.wire key_counts lens.1 in
    record { first = firsts; second = seconds; len = lens.0; key = keys.0; wire = keys.1 }

pub RowInto : List Frame → Reason → {seen : List ℕ} → IntoPayload seen → Type 0
RowInto group reason p = EvidentByPayload group reason p.first (encoded_length (len_form_at p.second) p.len) (unmasked p.second p.key p.wire)

pub row_into_same : (group : List Frame) (reason : Reason) (seen : List ℕ) (p q : IntoPayload seen) → RowInto group reason p → RowInto group reason q
unfolding RowInto
row_into_same group reason seen p q row =
    let same = same_into seen p q in
    let total : encoded_length (len_form_at p.second) p.len ≡ encoded_length (len_form_at q.second) q.len =
    ap (λ (b : ℕ). encoded_length (len_form_at b) p.len) same.second ∙ ap (λ (bs : List ℕ). encoded_length (len_form_at q.second) bs) same.len in
    let payload : unmasked p.second p.key p.wire ≡ unmasked q.second q.key q.wire =
    ap (λ (b : ℕ). unmasked b p.key p.wire) same.second ∙ ap (λ (bs : List ℕ). unmasked q.second bs p.wire) same.key ∙ ap (λ (bs : List ℕ). unmasked q.second q.key bs) same.wire in
    subst (λ (b : ℕ). EvidentByPayload group reason b (encoded_length (len_form_at q.second) q.len) (unmasked q.second q.key q.wire)) same.first
    (subst (λ (n : ℕ). EvidentByPayload group reason p.first n (unmasked q.second q.key q.wire)) total
    (subst (λ (bs : List ℕ). EvidentByPayload group reason p.first (encoded_length (len_form_at p.second) p.len) bs) payload row))

-- Whether the bytes have a complete head, and after it no more bytes than the payload's length.
unfoldable pub into_payload : (seen : List ℕ) → Decided (IntoPayload seen)
into_payload [] = inr (λ p. nil-cons p.first (p.second ∷ (p.len ++ (p.key ++ p.wire))) p.whole)
into_payload (first ∷ []) = inr (λ p. nil-cons p.second (p.len ++ (p.key ++ p.wire)) (tail_same first p.first [] (p.second ∷ (p.len ++ (p.key ++ p.wire))) p.whole))
into_payload (first ∷ second ∷ rest) =
    elim (less_or_not (length rest) (length_count (len_form_at second) + key_count second)) [
      | inl short ↦ inr (λ p. omega (arith, as_long p))
      | inr long ↦
          let count = length_count (len_form_at second) in
          let keys = key_count second in
          let len = take (length_count (len_form_at second)) rest in
          let following = drop (length_count (len_form_at second)) rest in
          let len_is : length (take (length_count (len_form_at second)) rest) ≡ length_count (len_form_at second) = length-take-le (length_count (len_form_at second)) rest (omega arith) in
          let parted : take (length_count (len_form_at second)) rest ++ drop (length_count (len_form_at second)) rest ≡ rest = take-append-drop (length_count (len_form_at second)) rest in
          let all : length rest ≡ length (take (length_count (len_form_at second)) rest) + length (drop (length_count (len_form_at second)) rest) = ap (λ (bs : List ℕ). length bs) (sym parted) ∙ length-append (take (length_count (len_form_at second)) rest) (drop (length_count (len_form_at second)) rest) in
          let enough : key_count second ≤ length (drop (length_count (len_form_at second)) rest) = omega arith in
          let key_is : length (take (key_count second) (drop (length_count (len_form_at second)) rest)) ≡ key_count second = length-take-le (key_count second) (drop (length_count (len_form_at second)) rest) enough in
          let key_parted : take (key_count second) (drop (length_count (len_form_at second)) rest) ++ drop (key_count second) (drop (length_count (len_form_at second)) rest) ≡ drop (length_count (len_form_at second)) rest = take-append-drop (key_count second) (drop (length_count (len_form_at second)) rest) in
          with_parts (take (length_count (len_form_at second)) rest) (take (key_count second) (drop (length_count (len_form_at second)) rest)) (drop (key_count second) (drop (length_count (len_form_at second)) rest))
          (sym parted ∙ ap (λ (bs : List ℕ). take (length_count (len_form_at second)) rest ++ bs) (sym key_parted)) len_is key_is
    ]
  where
    as_long : IntoPayload (first ∷ second ∷ rest) → length_count (len_form_at second) + key_count second ≤ length rest
    as_long p =
        let theirs = p.len ++ (p.key ++ p.wire) in
        let tails = tail_same first p.first (second ∷ rest) (p.second ∷ theirs) p.whole in
        let seconds : second ≡ p.second = head_same second p.second rest theirs tails in
        let rests : rest ≡ theirs = tail_same second p.second rest theirs tails in
        let counts : length rest ≡ length p.len + (length p.key + length p.wire) =
        ap (λ (bs : List ℕ). length bs) rests ∙ length-append p.len (p.key ++ p.wire) ∙ ap (λ (n : ℕ). length p.len + n) (length-append p.key p.wire) in
        let lens : length p.len ≡ length_count (len_form_at second) = p.len_count ∙ ap (λ (b : ℕ). length_count (len_form_at b)) (sym seconds) in
        let keys : length p.key ≡ key_count second = p.key_counted ∙ ap key_count (sym seconds) in
        omega arith

    with_parts : (len key wire : List ℕ) → rest ≡ len ++ (key ++ wire) → length len ≡ length_count (len_form_at second) → length key ≡ key_count second → Decided (IntoPayload (first ∷ second ∷ rest))
    with_parts len key wire is len_is key_is =
        elim (less_or_not (encoded_length (len_form_at second) len) (length wire)) [
          | inr within ↦ inl (record { first = first; second = second; len = len; key = key; wire = wire; whole = ap (λ (bs : List ℕ). first ∷ second ∷ bs) is; len_count = len_is; key_counted = key_is; within = within })
          | inl past ↦ inr (λ p. past_reported past p)
        ]
      where
        past_reported : encoded_length (len_form_at second) len < length wire → IntoPayload (first ∷ second ∷ rest) → ⊥
        past_reported past p =
            let theirs = p.len ++ (p.key ++ p.wire) in
            let tails = tail_same first p.first (second ∷ rest) (p.second ∷ theirs) p.whole in
            let seconds : second ≡ p.second = head_same second p.second rest theirs tails in
            let rests : len ++ (key ++ wire) ≡ theirs = sym is ∙ tail_same second p.second rest theirs tails in
            let counts : length len ≡ length p.len = len_is ∙ ap (λ (b : ℕ). length_count (len_form_at b)) seconds ∙ sym p.len_count in
            let lens = same_front len p.len (key ++ wire) (p.key ++ p.wire) counts rests in
            let key_counts : length key ≡ length p.key = key_is ∙ ap key_count seconds ∙ sym p.key_counted in
            let keys = same_front key p.key wire p.wire key_counts lens.1 in
            let wires : length wire ≡ length p.wire = ap (λ (bs : List ℕ). length bs) keys.1 in
            let decoded : encoded_length (len_form_at second) len ≡ encoded_length (len_form_at p.second) p.len =
            ap (λ (b : ℕ). encoded_length (len_form_at b) len) seconds ∙ ap (λ (bs : List ℕ). encoded_length (len_form_at p.second) bs) lens.0 in
            let fits : length p.wire ≤ encoded_length (len_form_at p.second) p.len = p.within in
            omega arith

-- ---- evidence

module _ (role : Role) (limits : Limits) (group : List Frame) (reason : Reason) where
  unfoldable pub first_evidence : (seen : List ℕ) → Decided ((first : ℕ) × (seen ≡ first ∷ []) × EvidentByFirst limits group reason first)
  first_evidence [] = inr (λ p. nil-cons p.0 [] p.1)
  first_evidence (b ∷ []) =
      elim (by_first limits group reason b) [
        | inl row ↦ inl (b, refl, row)
        | inr not ↦ inr (λ p. not (subst (λ (n : ℕ). EvidentByFirst limits group reason n) (sym (head_same b p.0 [] [] p.1)) p.2))
      ]
  first_evidence (b ∷ c ∷ seen) = inr (λ p. nil-cons c seen (sym (tail_same b p.0 (c ∷ seen) [] p.1)))

  unfoldable pub second_evidence : (seen : List ℕ) → Decided ((first : ℕ) × (second : ℕ) × (seen ≡ first ∷ second ∷ []) × EvidentInSecond role reason first second)
  second_evidence [] = inr (λ p. nil-cons p.0 (p.1 ∷ []) p.2)
  second_evidence (b ∷ []) = inr (λ p. nil-cons p.1 [] (tail_same b p.0 [] (p.1 ∷ []) p.2))
  second_evidence (b ∷ c ∷ []) =
      elim (by_second role reason b c) [
        | inl row ↦ inl (b, c, refl, row)
        | inr not ↦ inr (λ p. not (subst (λ (n : ℕ). EvidentInSecond role reason n c) (sym (head_same b p.0 (c ∷ []) (p.1 ∷ []) p.2)) (subst (λ (n : ℕ). EvidentInSecond role reason p.0 n) (sym (head_same c p.1 [] [] (tail_same b p.0 (c ∷ []) (p.1 ∷ []) p.2))) p.3)))
      ]
  second_evidence (b ∷ c ∷ d ∷ seen) = inr (λ p. nil-cons d seen (sym (tail_same c p.1 (d ∷ seen) [] (tail_same b p.0 (c ∷ d ∷ seen) (p.1 ∷ []) p.2))))

  pub LengthEvidence : List ℕ → Type 0
  LengthEvidence seen = (first : ℕ) × (second : ℕ) × (len : List ℕ) × (seen ≡ first ∷ second ∷ len) × (length len ≡ length_count (len_form_at second)) × EvidentByLength limits group reason first second len

  unfoldable pub length_evidence : (seen : List ℕ) → Decided (LengthEvidence seen)
  unfolding LengthEvidence
  length_evidence [] = inr (λ p. nil-cons p.0 (p.1 ∷ p.2) p.3)
  length_evidence (b ∷ []) = inr (λ p. nil-cons p.1 p.2 (tail_same b p.0 [] (p.1 ∷ p.2) p.3))
  length_evidence (b ∷ c ∷ len) =
      elim (same_or_not (length len) (length_count (len_form_at c))) [
        | inr other ↦ inr (λ p.
            let tails = tail_same b p.0 (c ∷ len) (p.1 ∷ p.2) p.3 in
            other (ap (λ (bs : List ℕ). length bs) (tail_same c p.1 len p.2 tails) ∙ p.4 ∙ ap (λ (n : ℕ). length_count (len_form_at n)) (sym (head_same c p.1 len p.2 tails))))
        | inl count ↦ elim (by_length limits group reason b c len) [
          | inl row ↦ inl (b, c, len, refl, count, row)
          | inr not ↦ inr (λ p.
              let tails = tail_same b p.0 (c ∷ len) (p.1 ∷ p.2) p.3 in
              not (subst (λ (n : ℕ). EvidentByLength limits group reason n c len) (sym (head_same b p.0 (c ∷ len) (p.1 ∷ p.2) p.3))
              (subst (λ (n : ℕ). EvidentByLength limits group reason p.0 n len) (sym (head_same c p.1 len p.2 tails))
              (subst (λ (bs : List ℕ). EvidentByLength limits group reason p.0 p.1 bs) (sym (tail_same c p.1 len p.2 tails)) p.5))))
        ]
      ]

  unfoldable pub payload_evidence : (seen : List ℕ) → Decided ((p : IntoPayload seen) × RowInto group reason p)
  unfolding RowInto
  payload_evidence seen =
      elim (into_payload seen) [
        | inr not ↦ inr (λ p. not p.0)
        | inl p ↦ elim (by_payload group reason p.first (encoded_length (len_form_at p.second) p.len) (unmasked p.second p.key p.wire)) [
          | inl row ↦ inl (p, row)
          | inr not ↦ inr (λ q. not (row_into_same group reason seen q.0 p q.1))
        ]
      ]

  unfoldable pub evidence_decided : (seen : List ℕ) → Decided (Evidence role limits group reason seen)
  unfolding LengthEvidence RowInto
  evidence_decided seen =
      elim (first_evidence seen) [
        | inl p ↦ inl (ByFirst p.0 p.1 p.2)
        | inr no_first ↦ elim (second_evidence seen) [
          | inl p ↦ inl (BySecond p.0 p.1 p.2 p.3)
          | inr no_second ↦ elim (length_evidence seen) [
            | inl p ↦ inl (ByLength p.0 p.1 p.2 p.3 p.4 p.5)
            | inr no_length ↦ elim (payload_evidence seen) [
              | inl p ↦ inl (ByPayload p.0 p.1)
              | inr no_payload ↦ inr (λ e. none no_first no_second no_length no_payload e)
            ]
          ]
        ]
      ]
    where
      none : (((first : ℕ) × (seen ≡ first ∷ []) × EvidentByFirst limits group reason first) → ⊥) → (((first : ℕ) × (second : ℕ) × (seen ≡ first ∷ second ∷ []) × EvidentInSecond role reason first second) → ⊥) → (LengthEvidence seen → ⊥) → (((p : IntoPayload seen) × RowInto group reason p) → ⊥) → Evidence role limits group reason seen → ⊥
      none no_first no_second no_length no_payload (ByFirst first is row) = no_first (first, is, row)
      none no_first no_second no_length no_payload (BySecond first second is row) = no_second (first, second, is, row)
      none no_first no_second no_length no_payload (ByLength first second len is count row) = no_length (first, second, len, is, count, row)
      none no_first no_second no_length no_payload (ByPayload p row) = no_payload (p, row)
