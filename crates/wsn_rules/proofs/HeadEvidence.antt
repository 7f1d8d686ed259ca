-- The evidence that the bytes of a head can be, by their number.
use Rattle.std.proofs.Common.{◌≡◌, ℕ, ◌+◌, ◌<◌, ◌≤◌, Bool, true, false, List, [], ◌∷◌, ◌++◌, ◌⊎◌, length, refl, sym, ap, ◌∙◌, subst, inl, inr, append-nil, arith, if◌then◌else◌}
use Rattle.std.proofs.lemmas.List.{length-append}
use Rattle.wsn_wire.specs.declared.endpoint.Role.{Role}
use Rattle.wsn_wire.specs.declared.length_encoding.LenForm.{LenForm}
use Rattle.wsn_wire.specs.declared.length_encoding.Lengths.{Lengths}
use Rattle.wsn_wire.specs.declared.refusal.Reason.{Reason}
use Rattle.wsn_wire.specs.declared.refusal.Reason.TheVariants.{ReservedBits, ReservedOpcode, ControlNotFinal, NothingToContinue, MessageOpen, MaskMissing, MaskPresent, ControlTooLong, CloseOneByte, LengthTopBit, LengthNotMinimal, MessageTooBig, CloseCode, CloseReason, TextBad, TextCut, TooManyFrames}
use Rattle.wsn_wire.specs.Frame.{Frame, masked}
use Rattle.wsn_wire.specs.ReceivedHead.{mask_bit, len_form_at, length_count, encoded_length, key_count}
use Rattle.wsn_wire.specs.Refusal.{number_of}
use Rattle.wsn_wire.specs.EvidenceInHeads.{EvidentInFirst, EvidentInSecond, EvidentInLength}
use Rattle.wsn_rules.specs.Limits.{Limits}
use Rattle.wsn_rules.specs.Evidence.{Evidence, EvidentByFirst, EvidentByLength, EvidentByPayload, unmasked}
use Rattle.wsn_rules.specs.Evidence.Evidence.{ByFirst, BySecond, ByLength, ByPayload}
use Rattle.wsn_rules.proofs.Prefixes.{head_same, tail_same, nil-cons, nil-parts, same_front}

-- ---- the numbers of the reasons, by the part of the frame with the evidence

pub first_number : (reason : Reason) (first : ℕ) → EvidentInFirst reason first → number_of reason ≤ 3
first_number ReservedBits first is_evident = omega arith
first_number ReservedOpcode first is_evident = omega arith
first_number ControlNotFinal first is_evident = omega arith
first_number _ first is_evident = absurd is_evident

pub second_number : (role : Role) (reason : Reason) (first second : ℕ) → EvidentInSecond role reason first second → number_of reason ≤ 9
second_number role MaskMissing first second is_evident = omega arith
second_number role MaskPresent first second is_evident = omega arith
second_number role ControlTooLong first second is_evident = omega arith
second_number role CloseOneByte first second is_evident = omega arith
second_number role _ first second is_evident = absurd is_evident

pub encoding_number : (lengths : Lengths) (reason : Reason) (f : LenForm) (len : List ℕ) → EvidentInLength lengths reason f len → number_of reason ≤ 11
encoding_number lengths LengthTopBit f len is_evident = omega arith
encoding_number lengths LengthNotMinimal f len is_evident = omega arith
encoding_number lengths _ f len is_evident = absurd is_evident

pub length_number : (limits : Limits) (group : List Frame) (reason : Reason) (first second : ℕ) (len : List ℕ) → EvidentByLength limits group reason first second len → 10 ≤ number_of reason
length_number limits group LengthTopBit first second len row = omega arith
length_number limits group LengthNotMinimal first second len row = omega arith
length_number limits group MessageTooBig first second len row = omega arith
length_number limits group _ first second len row = absurd row

pub payload_number : (group : List Frame) (reason : Reason) (first total : ℕ) (payload : List ℕ) → EvidentByPayload group reason first total payload → 13 ≤ number_of reason
payload_number group CloseCode first total payload row = omega arith
payload_number group CloseReason first total payload row = omega arith
payload_number group TextBad first total payload row = omega arith
payload_number group TextCut first total payload row = omega arith
payload_number group _ first total payload row = absurd row

-- A row of the length is one of its encoding, or the message is too big.
pub length_row : (limits : Limits) (group : List Frame) (reason : Reason) (first second : ℕ) (len : List ℕ) → EvidentByLength limits group reason first second len →
    EvidentInLength limits.lengths reason (len_form_at second) len ⊎ ((reason ≡ MessageTooBig) × EvidentByLength limits group MessageTooBig first second len)
length_row limits group MessageTooBig first second len row = inr (refl, row)
length_row limits group ReservedBits first second len row = absurd row
length_row limits group _ first second len row = inl row

-- A row of the encoding is a row of the length.
pub encoding_row : (limits : Limits) (group : List Frame) (reason : Reason) (first second : ℕ) (len : List ℕ) → EvidentInLength limits.lengths reason (len_form_at second) len → EvidentByLength limits group reason first second len
encoding_row limits group MessageTooBig first second len is_evident = absurd is_evident
encoding_row limits group _ first second len is_evident = is_evident

-- A row of the first byte alone is a row of the first byte after a group.
pub first_row : (limits : Limits) (group : List Frame) (reason : Reason) (first : ℕ) → EvidentInFirst reason first → EvidentByFirst limits group reason first
first_row limits group NothingToContinue first is_evident = absurd is_evident
first_row limits group MessageOpen first is_evident = absurd is_evident
first_row limits group TooManyFrames first is_evident = absurd is_evident
first_row limits group _ first is_evident = is_evident

-- ---- lists and their lengths

counted_three : (xs ys zs us : List ℕ) → us ≡ xs ++ (ys ++ zs) → length us ≡ length xs + (length ys + length zs)
counted_three xs ys zs us is =
    let all = ap (λ (bs : List ℕ). length bs) is in
    let outer = length-append xs (ys ++ zs) in
    let inner = length-append ys zs in
    omega arith

pub unmasked-nil : (second : ℕ) (key wire : List ℕ) → wire ≡ [] → unmasked second key wire ≡ []
unmasked-nil second key wire none = ap (λ (bs : List ℕ). unmasked second key bs) none ∙ either (mask_bit second)
  where
    either : (mask : Bool) → ◌≡◌ {A = List ℕ} (if mask then masked key 0 [] else []) []
    either true = refl
    either false = refl

no_key_unmasked : (second : ℕ) → key_count second ≡ 0 → mask_bit second ≡ false
no_key_unmasked second = either (mask_bit second)
  where
    either : (mask : Bool) → ◌≡◌ {A = ℕ} (if mask then 4 else 0) 0 → mask ≡ false
    either true none = absurd (omega arith)
    either false none = refl

-- ---- evidence, part by part

module _ (role : Role) (limits : Limits) (group : List Frame) (reason : Reason) where
  pub no_evidence : Evidence role limits group reason [] → ⊥
  no_evidence (ByFirst first is row) = nil-cons first [] is
  no_evidence (BySecond first second is row) = nil-cons first (second ∷ []) is
  no_evidence (ByLength first second len is count row) = nil-cons first (second ∷ len) is
  no_evidence (ByPayload p row) = nil-cons p.first (p.second ∷ (p.len ++ (p.key ++ p.wire))) p.whole

  pub first_evidence : (b : ℕ) → Evidence role limits group reason (b ∷ []) → EvidentByFirst limits group reason b
  first_evidence b (ByFirst first is row) = subst (λ (n : ℕ). EvidentByFirst limits group reason n) (sym (head_same b first [] [] is)) row
  first_evidence b (BySecond first second is row) = absurd (nil-cons second [] (tail_same b first [] (second ∷ []) is))
  first_evidence b (ByLength first second len is count row) = absurd (nil-cons second len (tail_same b first [] (second ∷ len) is))
  first_evidence b (ByPayload p row) = absurd (nil-cons p.second (p.len ++ (p.key ++ p.wire)) (tail_same b p.first [] (p.second ∷ (p.len ++ (p.key ++ p.wire))) p.whole))

  -- Evidence in a first byte, a second and the rest, if it isn't in the first byte alone.
  pub data BehindFirst (first second : ℕ) (rest : List ℕ) : Type 0 where
    OfSecond : rest ≡ [] → EvidentInSecond role reason first second → BehindFirst first second rest
    OfLength : length rest ≡ length_count (len_form_at second) → EvidentByLength limits group reason first second rest → BehindFirst first second rest
    OfPayload : (len key wire : List ℕ) → rest ≡ len ++ (key ++ wire) → length len ≡ length_count (len_form_at second) → length key ≡ key_count second
        → EvidentByPayload group reason first (encoded_length (len_form_at second) len) (unmasked second key wire) → BehindFirst first second rest

  pub after_first : (first second : ℕ) (rest : List ℕ) → Evidence role limits group reason (first ∷ second ∷ rest) → BehindFirst first second rest
  after_first first second rest evidence = parted evidence
    where
      of_same : (f s : ℕ) (bs : List ℕ) → first ∷ second ∷ rest ≡ f ∷ s ∷ bs → BehindFirst f s bs → BehindFirst first second rest
      of_same f s bs is following =
          let tails = tail_same first f (second ∷ rest) (s ∷ bs) is in
          let firsts : f ≡ first = sym (head_same first f (second ∷ rest) (s ∷ bs) is) in
          let seconds : s ≡ second = sym (head_same second s rest bs tails) in
          let rests : bs ≡ rest = sym (tail_same second s rest bs tails) in
          subst (λ (n : ℕ). BehindFirst n second rest) firsts (subst (λ (n : ℕ). BehindFirst f n rest) seconds (subst (λ (us : List ℕ). BehindFirst f s us) rests following))

      parted : Evidence role limits group reason (first ∷ second ∷ rest) → BehindFirst first second rest
      parted (ByFirst f is row) = absurd (nil-cons second rest (sym (tail_same first f (second ∷ rest) [] is)))
      parted (BySecond f s is row) = of_same f s [] is (OfSecond refl row)
      parted (ByLength f s len is count row) = of_same f s len is (OfLength count row)
      parted (ByPayload p row) = of_same p.first p.second (p.len ++ (p.key ++ p.wire)) p.whole (OfPayload p.len p.key p.wire refl p.len_count p.key_counted row)

  -- ---- evidence, by the part of the head that its last byte belongs to

  -- The length is incomplete.
  pub short_of_length : (first second : ℕ) (came : List ℕ) → length came < length_count (len_form_at second) → (came ≡ [] → EvidentInSecond role reason first second → ⊥)
      → Evidence role limits group reason (first ∷ second ∷ came) → ⊥
  short_of_length first second came short not evidence =
      elim (after_first first second came evidence) [
        | OfSecond none row ↦ not none row
        | OfLength count row ↦ omega arith
        | OfPayload len key wire is len_count key_counted row ↦ let all = counted_three len key wire came is in omega arith
      ]

  -- The length is complete.
  pub data AtLength (first second : ℕ) (lengths : List ℕ) : Type 0 where
    IsSecondRow : lengths ≡ [] → EvidentInSecond role reason first second → AtLength first second lengths
    IsLengthRow : EvidentByLength limits group reason first second lengths → AtLength first second lengths
    IsEmptyPayloadRow : mask_bit second ≡ false → EvidentByPayload group reason first (encoded_length (len_form_at second) lengths) [] → AtLength first second lengths

  pub at_length : (first second : ℕ) (lengths : List ℕ) → length lengths ≡ length_count (len_form_at second) → Evidence role limits group reason (first ∷ second ∷ lengths) → AtLength first second lengths
  at_length first second lengths counted evidence =
      elim (after_first first second lengths evidence) [
        | OfSecond none row ↦ IsSecondRow none row
        | OfLength count row ↦ IsLengthRow row
        | OfPayload len key wire is len_count key_counted row ↦
            let fronts = same_front lengths len [] (key ++ wire) (counted ∙ sym len_count) (append-nil lengths ∙ is) in
            let nones = nil-parts key wire fronts.1 in
            let no_key : key_count second ≡ 0 = sym key_counted ∙ ap (λ (bs : List ℕ). length bs) nones.0 in
            IsEmptyPayloadRow (no_key_unmasked second no_key)
            (subst (λ (bs : List ℕ). EvidentByPayload group reason first (encoded_length (len_form_at second) bs) []) (sym fronts.0)
            (subst (λ (bs : List ℕ). EvidentByPayload group reason first (encoded_length (len_form_at second) len) bs) (unmasked-nil second key wire nones.1) row))
      ]

  -- The length is complete, and the key is incomplete.
  pub short_of_key : (first second : ℕ) (lengths came : List ℕ) → length lengths ≡ length_count (len_form_at second) → mask_bit second ≡ true → 0 < length came → length came < 4
      → Evidence role limits group reason (first ∷ second ∷ (lengths ++ came)) → ⊥
  short_of_key first second lengths came counted masked some short evidence =
      let both = length-append lengths came in
      let keyed : key_count second ≡ 4 = ap (λ (mask : Bool). if mask then 4 else 0) masked in
      elim (after_first first second (lengths ++ came) evidence) [
        | OfSecond none row ↦ let all : length (lengths ++ came) ≡ 0 = ap (λ (bs : List ℕ). length bs) none in omega arith
        | OfLength count row ↦ omega arith
        | OfPayload len key wire is len_count key_counted row ↦ let all = counted_three len key wire (lengths ++ came) is in omega arith
      ]

  -- The length and the key are complete.
  pub at_key : (first second : ℕ) (lengths key : List ℕ) → length lengths ≡ length_count (len_form_at second) → mask_bit second ≡ true → length key ≡ 4
      → Evidence role limits group reason (first ∷ second ∷ (lengths ++ key)) → EvidentByPayload group reason first (encoded_length (len_form_at second) lengths) []
  at_key first second lengths key counted masked four evidence =
      let both = length-append lengths key in
      let keyed : key_count second ≡ 4 = ap (λ (mask : Bool). if mask then 4 else 0) masked in
      elim (after_first first second (lengths ++ key) evidence) [
        | OfSecond none row ↦ let all : length (lengths ++ key) ≡ 0 = ap (λ (bs : List ℕ). length bs) none in absurd (omega arith)
        | OfLength count row ↦ absurd (omega arith)
        | OfPayload len other wire is len_count key_counted row ↦
            let fronts = same_front lengths len key (other ++ wire) (counted ∙ sym len_count) is in
            let keys = same_front key other [] wire (four ∙ sym keyed ∙ sym key_counted) (append-nil key ∙ fronts.1) in
            subst (λ (bs : List ℕ). EvidentByPayload group reason first (encoded_length (len_form_at second) bs) []) (sym fronts.0)
            (subst (λ (bs : List ℕ). EvidentByPayload group reason first (encoded_length (len_form_at second) len) bs) (unmasked-nil second other wire (sym keys.1)) row)
      ]
