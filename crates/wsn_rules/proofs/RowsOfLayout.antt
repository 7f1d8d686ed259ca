-- The rows that hold for a complete layout, and the prefixes of it that are their evidence.
use Rattle.std.proofs.Common.{◌≡◌, ℕ, zero, suc, ◌+◌, ◌≤◌, Bool, true, false, List, [], ◌∷◌, ◌++◌, length, take, drop, refl, sym, ap, ◌∙◌, subst, inl, inr, append_assoc, append-nil, arith, if◌then◌else◌}
use Rattle.std.proofs.lemmas.List.{take-append-drop, length-append, length-take-le, take_at, take_all}
use Rattle.wsn_wire.specs.declared.endpoint.Role.{Role}
use Rattle.wsn_wire.specs.declared.refusal.Reason.{Reason}
use Rattle.wsn_wire.specs.Frame.{Frame, masked}
use Rattle.wsn_wire.specs.ReceivedHead.{HasLayout, mask_bit, len_form_at, length_count, encoded_length, key_count}
use Rattle.wsn_wire.specs.EvidenceInHeads.{EvidentInSecond}
use Rattle.wsn_wire.proofs.MaskLemmas.{length-masked}
use Rattle.wsn_rules.specs.Limits.{Limits}
use Rattle.wsn_rules.specs.Evidence.{Evidence, EvidentByFirst, EvidentByLength, EvidentByPayload, unmasked}
use Rattle.wsn_rules.specs.Evidence.Evidence.{ByFirst, BySecond, ByLength, ByPayload}
use Rattle.wsn_rules.proofs.Prefixes.{head_same, tail_same, same_front, two_fronts, cons_same}

-- ---- unmasking a prefix of a payload

masked-take : (key : List ℕ) (start n : ℕ) (bytes : List ℕ) → masked key start (take n bytes) ≡ take n (masked key start bytes)
masked-take key start zero bytes = refl
masked-take key start (suc n) [] = refl
masked-take key start (suc n) (b ∷ bytes) = cons_same _ _ _ _ refl (masked-take key (start + 1) n bytes)

pub unmasked-take : (second : ℕ) (key : List ℕ) (n : ℕ) (wire : List ℕ) → unmasked second key (take n wire) ≡ take n (unmasked second key wire)
unmasked-take second key n wire = either (mask_bit second)
  where
    either : (mask : Bool) → (if mask then masked key 0 (take n wire) else take n wire) ≡ take n (if mask then masked key 0 wire else wire)
    either true = masked-take key 0 n wire
    either false = refl

pub length-unmasked : (second : ℕ) (key wire : List ℕ) → length (unmasked second key wire) ≡ length wire
length-unmasked second key wire = either (mask_bit second)
  where
    either : (mask : Bool) → length (if mask then masked key 0 wire else wire) ≡ length wire
    either true = length-masked key 0 wire
    either false = refl

-- ---- the rows of a layout

-- The payload of a layout, unmasked.
abbrev pub payload_in : {bytes : List ℕ} → HasLayout bytes → List ℕ
payload_in l = unmasked l.second l.key l.payload

abbrev pub reported_by : {bytes : List ℕ} → HasLayout bytes → ℕ
reported_by l = encoded_length (len_form_at l.second) l.len

-- A row holds for a part of the layout: the first byte, the second, the length bytes, or the first n of the payload.
pub data RowAt (role : Role) (limits : Limits) (group : List Frame) (reason : Reason) {bytes : List ℕ} (l : HasLayout bytes) : Type 0 where
  FirstShows : EvidentByFirst limits group reason l.first → RowAt role limits group reason l
  SecondShows : EvidentInSecond role reason l.first l.second → RowAt role limits group reason l
  LengthShows : EvidentByLength limits group reason l.first l.second l.len → RowAt role limits group reason l
  PayloadShows : (n : ℕ) → n ≤ length l.payload → EvidentByPayload group reason l.first (reported_by l) (take n (payload_in l)) → RowAt role limits group reason l

-- ---- the evidence for a row

-- A prefix of the bytes is evidence.
pub record FrontShows (role : Role) (limits : Limits) (group : List Frame) (reason : Reason) (bytes : List ℕ) : Type 0 where
  pub seen : List ℕ
  pub later : List ℕ
  pub whole : bytes ≡ seen ++ later
  pub evidence : Evidence role limits group reason seen

pub row_has_evidence : (role : Role) (limits : Limits) (group : List Frame) (reason : Reason) (bytes : List ℕ) (l : HasLayout bytes) → RowAt role limits group reason l → FrontShows role limits group reason bytes
row_has_evidence role limits group reason bytes l (FirstShows row) = record {
  seen = l.first ∷ [];
  later = l.second ∷ (l.len ++ (l.key ++ l.payload));
  whole = l.whole;
  evidence = ByFirst l.first refl row;
}
row_has_evidence role limits group reason bytes l (SecondShows row) = record {
  seen = l.first ∷ l.second ∷ [];
  later = l.len ++ (l.key ++ l.payload);
  whole = l.whole;
  evidence = BySecond l.first l.second refl row;
}
row_has_evidence role limits group reason bytes l (LengthShows row) = record {
  seen = l.first ∷ l.second ∷ l.len;
  later = l.key ++ l.payload;
  whole = l.whole;
  evidence = ByLength l.first l.second l.len refl l.len_count row;
}
row_has_evidence role limits group reason bytes l (PayloadShows n le row) =
    let wire = take n l.payload in
    let back = drop n l.payload in
    let parted : l.key ++ l.payload ≡ (l.key ++ take n l.payload) ++ drop n l.payload =
    ap (λ (bs : List ℕ). l.key ++ bs) (sym (take-append-drop n l.payload)) ∙ sym (append_assoc l.key (take n l.payload) (drop n l.payload)) in
    let whole : l.len ++ (l.key ++ l.payload) ≡ (l.len ++ (l.key ++ take n l.payload)) ++ drop n l.payload =
    ap (λ (bs : List ℕ). l.len ++ bs) parted ∙ sym (append_assoc l.len (l.key ++ take n l.payload) (drop n l.payload)) in
    let short : length (take n l.payload) ≤ reported_by l =
    let count : length (take n l.payload) ≡ n = length-take-le n l.payload le in
    let all : length l.payload ≡ reported_by l = l.payload_count in
    omega arith in
    record {
      seen = l.first ∷ l.second ∷ (l.len ++ (l.key ++ take n l.payload));
      later = drop n l.payload;
      whole = l.whole ∙ ap (λ (bs : List ℕ). l.first ∷ l.second ∷ bs) whole;
      evidence = ByPayload
          (record { first = l.first; second = l.second; len = l.len; key = l.key; wire = take n l.payload; whole = refl; len_count = l.len_count; key_counted = l.key_counted; within = short })
          (subst (λ (p : List ℕ). EvidentByPayload group reason l.first (reported_by l) p) (sym (unmasked-take l.second l.key n l.payload)) row);
    }

-- ---- evidence at the start of a layout is one of its rows, and is no longer than the layout

pub record IsRowOf (role : Role) (limits : Limits) (group : List Frame) (reason : Reason) {bytes : List ℕ} (l : HasLayout bytes) (seen : List ℕ) : Type 0 where
  pub row : RowAt role limits group reason l
  pub short : length seen ≤ length bytes

length_of_layout : (bytes : List ℕ) (l : HasLayout bytes) → length bytes ≡ 2 + (length l.len + (length l.key + length l.payload))
length_of_layout bytes l =
    let all = ap (λ (bs : List ℕ). length bs) l.whole in
    let outer = length-append l.len (l.key ++ l.payload) in
    let inner = length-append l.key l.payload in
    omega arith

pub evidence_is_row : (role : Role) (limits : Limits) (group : List Frame) (reason : Reason) (bytes following seen later : List ℕ) (l : HasLayout bytes) →
    seen ++ later ≡ l.first ∷ l.second ∷ (l.len ++ (l.key ++ (l.payload ++ following))) → Evidence role limits group reason seen → IsRowOf role limits group reason l seen
evidence_is_row role limits group reason bytes following seen later l e (ByFirst first is row) =
    let rest = l.second ∷ (l.len ++ (l.key ++ (l.payload ++ following))) in
    let same : first ∷ later ≡ l.first ∷ rest = ap (λ (bs : List ℕ). bs ++ later) (sym is) ∙ e in
    let whole = length_of_layout bytes l in
    let count : length seen ≡ 1 = ap (λ (bs : List ℕ). length bs) is in
    record {
      row = FirstShows (subst (λ (b : ℕ). EvidentByFirst limits group reason b) (head_same first l.first later rest same) row);
      short = omega arith;
    }
evidence_is_row role limits group reason bytes following seen later l e (BySecond first second is row) =
    let rest = l.len ++ (l.key ++ (l.payload ++ following)) in
    let same : first ∷ second ∷ later ≡ l.first ∷ l.second ∷ rest = ap (λ (bs : List ℕ). bs ++ later) (sym is) ∙ e in
    let firsts = head_same first l.first (second ∷ later) (l.second ∷ rest) same in
    let seconds = head_same second l.second later rest (tail_same first l.first (second ∷ later) (l.second ∷ rest) same) in
    let whole = length_of_layout bytes l in
    let count : length seen ≡ 2 = ap (λ (bs : List ℕ). length bs) is in
    record {
      row = SecondShows (subst (λ (b : ℕ). EvidentInSecond role reason b l.second) firsts (subst (λ (b : ℕ). EvidentInSecond role reason first b) seconds row));
      short = omega arith;
    }
evidence_is_row role limits group reason bytes following seen later l e (ByLength first second len is len_count row) =
    let rest = l.len ++ (l.key ++ (l.payload ++ following)) in
    let same : first ∷ second ∷ (len ++ later) ≡ l.first ∷ l.second ∷ rest = ap (λ (bs : List ℕ). bs ++ later) (sym is) ∙ e in
    let firsts = head_same first l.first (second ∷ (len ++ later)) (l.second ∷ rest) same in
    let tails = tail_same first l.first (second ∷ (len ++ later)) (l.second ∷ rest) same in
    let seconds = head_same second l.second (len ++ later) rest tails in
    let counts : length len ≡ length l.len = len_count ∙ ap (λ (b : ℕ). length_count (len_form_at b)) seconds ∙ sym l.len_count in
    let lens = same_front len l.len later (l.key ++ (l.payload ++ following)) counts (tail_same second l.second (len ++ later) rest tails) in
    let whole = length_of_layout bytes l in
    let count : length seen ≡ 2 + length len = ap (λ (bs : List ℕ). length bs) is ∙ two_more len in
    record {
      row = LengthShows (subst (λ (b : ℕ). EvidentByLength limits group reason b l.second l.len) firsts (subst (λ (b : ℕ). EvidentByLength limits group reason first b l.len) seconds (subst (λ (bs : List ℕ). EvidentByLength limits group reason first second bs) lens.0 row)));
      short = omega arith;
    }
  where
    two_more : (bs : List ℕ) → suc (suc (length bs)) ≡ 2 + length bs
    two_more bs = omega arith
evidence_is_row role limits group reason bytes following seen later l e (ByPayload p row) =
    let rest = l.len ++ (l.key ++ (l.payload ++ following)) in
    let moved : seen ++ later ≡ p.first ∷ p.second ∷ (p.len ++ (p.key ++ (p.wire ++ later))) =
    ap (λ (bs : List ℕ). bs ++ later) p.whole
    ∙ ap (λ (bs : List ℕ). p.first ∷ p.second ∷ bs) (append_assoc p.len (p.key ++ p.wire) later ∙ ap (λ (bs : List ℕ). p.len ++ bs) (append_assoc p.key p.wire later)) in
    let mine = p.len ++ (p.key ++ (p.wire ++ later)) in
    let same : p.first ∷ p.second ∷ mine ≡ l.first ∷ l.second ∷ rest = sym moved ∙ e in
    let firsts = head_same p.first l.first (p.second ∷ mine) (l.second ∷ rest) same in
    let tails = tail_same p.first l.first (p.second ∷ mine) (l.second ∷ rest) same in
    let seconds = head_same p.second l.second mine rest tails in
    let len_counts : length p.len ≡ length l.len = p.len_count ∙ ap (λ (b : ℕ). length_count (len_form_at b)) seconds ∙ sym l.len_count in
    let lens = same_front p.len l.len (p.key ++ (p.wire ++ later)) (l.key ++ (l.payload ++ following)) len_counts (tail_same p.second l.second mine rest tails) in
    let key_counts : length p.key ≡ length l.key = p.key_counted ∙ ap key_count seconds ∙ sym l.key_counted in
    let keys = same_front p.key l.key (p.wire ++ later) (l.payload ++ following) key_counts lens.1 in
    let tolds : encoded_length (len_form_at p.second) p.len ≡ reported_by l =
    ap (λ (b : ℕ). encoded_length (len_form_at b) p.len) seconds ∙ ap (λ (bs : List ℕ). encoded_length (len_form_at l.second) bs) lens.0 in
    let fits : length p.wire ≤ length l.payload =
    let decoded : length p.wire ≤ encoded_length (len_form_at p.second) p.len = p.within in
    let all : length l.payload ≡ reported_by l = l.payload_count in
    omega arith in
    let wire_is : p.wire ≡ take (length p.wire) l.payload = front_of p.wire l.payload later following fits keys.1 in
    let is_evident : EvidentByPayload group reason l.first (reported_by l) (unmasked l.second l.key p.wire) =
    subst (λ (b : ℕ). EvidentByPayload group reason b (reported_by l) (unmasked l.second l.key p.wire)) firsts
    (subst (λ (n : ℕ). EvidentByPayload group reason p.first n (unmasked l.second l.key p.wire)) tolds
    (subst (λ (b : ℕ). EvidentByPayload group reason p.first (encoded_length (len_form_at p.second) p.len) (unmasked b l.key p.wire)) seconds
    (subst (λ (bs : List ℕ). EvidentByPayload group reason p.first (encoded_length (len_form_at p.second) p.len) (unmasked p.second bs p.wire)) keys.0 row))) in
    let unmasked_is : unmasked l.second l.key p.wire ≡ take (length p.wire) (payload_in l) =
    ap (λ (bs : List ℕ). unmasked l.second l.key bs) wire_is ∙ unmasked-take l.second l.key (length p.wire) l.payload in
    let whole = length_of_layout bytes l in
    let count : length seen ≡ 2 + (length p.len + (length p.key + length p.wire)) = ap (λ (bs : List ℕ). length bs) p.whole ∙ three_more p.len p.key p.wire in
    let of_len : length p.len ≡ length l.len = len_counts in
    let of_key : length p.key ≡ length l.key = key_counts in
    record {
      row = PayloadShows (length p.wire) fits (subst (λ (bs : List ℕ). EvidentByPayload group reason l.first (reported_by l) bs) unmasked_is is_evident);
      short = omega arith;
    }
  where
    three_more : (xs ys zs : List ℕ) → suc (suc (length (xs ++ (ys ++ zs)))) ≡ 2 + (length xs + (length ys + length zs))
    three_more xs ys zs =
        let outer = length-append xs (ys ++ zs) in
        let inner = length-append ys zs in
        omega arith

    front_of : (xs ys us vs : List ℕ) → length xs ≤ length ys → xs ++ us ≡ ys ++ vs → xs ≡ take (length xs) ys
    front_of xs ys us vs le e =
        elim (two_fronts xs ys us vs e) [
          | inl p ↦ sym (ap (λ (bs : List ℕ). take (length xs) bs) p.1 ∙ take_at xs p.0 (length xs) refl)
          | inr p ↦
              let more : List ℕ = p.0 in
              let all = ap (λ (bs : List ℕ). length bs) p.1 ∙ length-append ys more in
              let none : length more ≡ 0 = omega arith in
              let is_nil : more ≡ [] = empty more none in
              let same : xs ≡ ys = p.1 ∙ ap (λ (bs : List ℕ). ys ++ bs) is_nil ∙ append-nil ys in
              same ∙ sym (take_all (length xs) ys (omega (arith, ap (λ (bs : List ℕ). length bs) same)))
        ]
      where
        empty : (bs : List ℕ) → length bs ≡ 0 → bs ≡ []
        empty [] n = refl
        empty (b ∷ bs) n = absurd (omega arith)
