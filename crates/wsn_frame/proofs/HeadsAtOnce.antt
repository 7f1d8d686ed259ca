-- What the first bytes of a frame are of its head.
use Rattle.std.proofs.Common.{◌≡◌, ◌≢◌, ℕ, suc, ◌+◌, ◌<◌, ◌≤◌, ◌⊎◌, Bool, true, false, cond, Option, None, Some, is_some, List, [], ◌∷◌, ◌++◌, length, take, drop, take-append-drop, get_or, Result, Ok, Err, zero, refl, sym, ap, ◌∙◌, subst, inl, inr, append_assoc, append-nil, length-append, take-add, arith}
use Rattle.std.specs.Prelude.{◌↔◌, ◌-◌, IfSome, IsSome, IfOk, IfErr}
use Rattle.std.proofs.lemmas.List.{length-take-le}
use Rattle.std.proofs.lemmas.Bool.{false≢true}
use Rattle.wsn_wire.specs.declared.endpoint.Role.{Role}
use Rattle.wsn_wire.specs.declared.endpoint.Role.TheVariants.{Client, Server}
use Rattle.wsn_wire.specs.declared.head_law.FirstByte.{FirstByte}
use Rattle.wsn_wire.specs.declared.length_encoding.LenForm.{LenForm}
use Rattle.wsn_wire.specs.declared.length_encoding.LenForm.TheVariants as len_form
use Rattle.wsn_wire.specs.declared.length_encoding.Lengths.{Lengths}
use Rattle.wsn_wire.specs.declared.refusal.Reason.{Reason}
use Rattle.wsn_wire.specs.declared.refusal.Reason.TheVariants.{MaskMissing, MaskPresent, LengthTopBit, LengthNotMinimal, MessageTooBig}
use Rattle.wsn_wire.specs.Frame.{Frame, IsBytes, IsKey, opcode, first_byte, key_bytes}
use Rattle.wsn_wire.specs.ReceivedHead.{opcode_field, mask_bit, len_form_at, length_count, encoded_length, key_count}
use Rattle.wsn_wire.specs.Refusal.{number_of, IsFirstEvident}
use Rattle.wsn_wire.specs.EvidenceInHeads.{EvidentInSecond, EvidentInLength}
use Rattle.wsn_wire.proofs.FrameLemmas.{first_byte_fields, key_bytes_count}
use Rattle.wsn_rules.specs.Limits.{Limits}
use Rattle.wsn_rules.specs.Group.{payload_of}
use Rattle.wsn_rules.specs.Evidence.{Evidence, IsDataOpcode, EvidentByFirst, EvidentByLength, EvidentByPayload, unmasked}
use Rattle.wsn_rules.specs.Evidence.Evidence.{ByFirst, BySecond, ByLength}
use Rattle.wsn_frame.specs.declared.heads.Head.{Head}
use Rattle.wsn_frame.specs.declared.kept_message.OpenMessage.{OpenMessage}
use Rattle.wsn_frame.specs.declared.parsing.Parsed.{Parsed}
use Rattle.wsn_frame.specs.declared.parsing.Parsed.TheVariants.{Whole}
use Rattle.wsn_frame.specs.KeptMessages.{IsOpenMessage}
use Rattle.wsn_frame.specs.PartialHeads.{IsEvidentLast, IsShort, IsHeadSoFar, IsHead, IsHeadPrefix, IsParsed, IsWithin, HasTwoBytes, IsLengthRead}
use Rattle.wsn_rules.proofs.Prefixes.{head_same, tail_same, nil-parts, same_front}
use Rattle.wsn_rules.proofs.HeadEvidence.{second_number, encoding_number, length_number, payload_number, length_row, encoding_row, no_evidence, first_evidence, after_first, unmasked-nil}
use Rattle.wsn_rules.proofs.PlanTheory.MessageFrames.{bytes_take}
use Rattle.wsn_rules.proofs.HeadEvidence.BehindFirst.{OfSecond, OfLength, OfPayload}
use Rattle.wsn_rules.proofs.HeadEvidence.{BehindFirst}

-- A list of length 0.
pub no_items : (items : List ℕ) → length items ≡ 0 → items ≡ []
no_items [] is = refl
no_items (x ∷ xs) is = absurd (omega (arith, is))

-- The first byte of a list.
pub front_one : (xs : List ℕ) → 1 ≤ length xs → get_or xs 0 0 ∷ [] ≡ take 1 xs
front_one [] some = absurd (omega arith)
front_one (a ∷ xs) some = refl

-- A prefix has no element, or the first one.
front : (b : ℕ) (rest seen later : List ℕ) → b ∷ rest ≡ seen ++ later → (seen ≡ []) ⊎ ((t : List ℕ) × (seen ≡ b ∷ t) × (rest ≡ t ++ later))
front b rest [] later is = inl refl
front b rest (x ∷ t) later is = inr (t, ap (λ (n : ℕ). n ∷ t) (sym (head_same b x rest (t ++ later) is)), tail_same b x rest (t ++ later) is)

-- Numbers below 256 are bytes.
pub bytes_of : (xs : List ℕ) → ((i : ℕ) → get_or xs i 0 < 256) → IsBytes xs
bytes_of [] each = tt
bytes_of (x ∷ xs) each = (each 0, bytes_of xs (λ i. each (suc i)))

-- Two bytes and some of those after them.
pub take_after_two : (a b : ℕ) (xs : List ℕ) (n : ℕ) → take (2 + n) (a ∷ b ∷ xs) ≡ a ∷ b ∷ take n xs
take_after_two a b xs n = let same : 2 + n ≡ suc (suc n) = omega arith in ap (λ (m : ℕ). take m (a ∷ b ∷ xs)) same

-- Some of the first two bytes and of the length bytes are no whole head.
pub short_before : (a b : ℕ) (xs : List ℕ) (n : ℕ) → n ≡ length_count (len_form_at b) → n ≤ length xs → IsShort (take (2 + n - 1) (a ∷ b ∷ xs))
short_before a b xs zero count within = tt
short_before a b xs (suc n) count within =
    let same : 2 + suc n - 1 ≡ suc (suc n) = omega arith in
    let size : length (take n xs) ≡ n = length-take-le n xs (omega (arith, within)) in
    let few : length (take n xs) < length_count (len_form_at b) + key_count b = omega (arith, size, count) in
    subst (λ (m : ℕ). IsShort (take m (a ∷ b ∷ xs))) (sym same) few

-- A length in the second byte is always in its shortest encoding.
pub short_shows_nothing : (lengths : Lengths) (r : Reason) (n : ℕ) (bytes : List ℕ) → EvidentInLength lengths r (len_form.Short n) bytes → ⊥
short_shows_nothing lengths LengthTopBit n bytes is_evident = is_evident
short_shows_nothing lengths LengthNotMinimal n bytes is_evident = is_evident.1
short_shows_nothing lengths _ n bytes is_evident = is_evident

-- A length that is read from its bytes.
pub length_read : (lengths : Lengths) (f : LenForm) (bytes : List ℕ) (read : Result ℕ Reason) → IfOk read (λ len. len ≡ encoded_length f bytes) → IfOk read (λ _. (r : Reason) → EvidentInLength lengths r f bytes → ⊥)
    → IfErr read (IsFirstEvident (λ r. EvidentInLength lengths r f bytes)) → IsLengthRead lengths f bytes read
length_read lengths f bytes (Ok len) decoded nothing refused = (decoded, nothing)
length_read lengths f bytes (Err reason) decoded nothing refused = refused

pub read_as : (own lengths : Lengths) (f : LenForm) (following : List ℕ) (count : ℕ) (read result : Result ℕ Reason) → own ≡ lengths → count ≡ length_count f → read ≡ result
    → IsLengthRead own f (take (length_count f) following) read → IsLengthRead lengths f (take count following) result
read_as own lengths f following count read result same count_is is was =
    let of_result = subst (λ (r : Result ℕ Reason). IsLengthRead own f (take (length_count f) following) r) is was in
    let of_count = subst (λ (n : ℕ). IsLengthRead own f (take n following) result) (sym count_is) of_result in
    subst (λ (ls : Lengths). IsLengthRead ls f (take count following) result) same of_count

-- What is parsed of bytes that begin with a complete head.
pub head_prefix : (role : Role) (limits : Limits) (message : Option OpenMessage) (bytes chunk : List ℕ) (n : ℕ) (parsed : Parsed) (size : ℕ) (head : Head) → bytes ≡ chunk → n ≡ length chunk → IsWithin n parsed
    → ((group : List Frame) → IsOpenMessage message group → IsParsed role limits group bytes parsed) → parsed ≡ Whole size head → IsHeadPrefix role limits message chunk size head
head_prefix role limits message bytes chunk n parsed size head same count within each is =
    let inside = subst (λ (p : Parsed). IsWithin n p) is within in (
      inside.0,
      omega (arith, inside.1, count),
      λ group is_open. subst (λ (bs : List ℕ). IsHead role limits group head (take size bs)) same (subst (λ (p : Parsed). IsParsed role limits group bytes p) is (each group is_open)),
    )

-- A client masks, a server doesn't.
masked_for : (role : Role) (mask : Bool) → ((role ≡ Client) × (mask ≡ false) → ⊥) → ((role ≡ Server) × (mask ≡ true) → ⊥) → (mask ≡ true) ↔ (role ≡ Client)
masked_for Client true missing present = ((λ _. refl), (λ _. refl))
masked_for Client false missing present = absurd (missing (refl, refl))
masked_for Server true missing present = absurd (present (refl, refl))
masked_for Server false missing present = ((λ is. absurd (false≢true is)), (λ is. cc))

module _ (role : Role) (limits : Limits) (group : List Frame) where
  evidence_in : (reason : Reason) (seen same : List ℕ) → seen ≡ same → Evidence role limits group reason seen → Evidence role limits group reason same
  evidence_in reason seen same is evidence = subst (λ (bs : List ℕ). Evidence role limits group reason bs) is evidence

  -- ---- no byte, and the first

  pub nothing_so_far : IsHeadSoFar role limits group []
  nothing_so_far = record {
    short = tt;
    has_no_evidence = record { none = λ seen later reason is evidence. no_evidence role limits group reason (evidence_in reason seen [] (nil-parts seen later is).0 evidence) };
  }

  pub one_so_far : (b : ℕ) → ((r : Reason) → EvidentByFirst limits group r b → ⊥) → IsHeadSoFar role limits group (b ∷ [])
  one_so_far b not = record {
    short = tt;
    has_no_evidence = record {
      none = λ seen later reason is evidence.
          elim (front b [] seen later is) [
            | inl none ↦ no_evidence role limits group reason (evidence_in reason seen [] none evidence)
            | inr p ↦ not reason (first_evidence role limits group reason b (evidence_in reason seen (b ∷ []) (p.1 ∙ ap (λ (t : List ℕ). b ∷ t) (nil-parts p.0 later p.2).0) evidence))
          ];
    };
  }

  pub first_refused : (b : ℕ) (reason : Reason) → IsFirstEvident (λ r. EvidentByFirst limits group r b) reason → IsEvidentLast role limits group reason (b ∷ [])
  first_refused b reason is = record {
    before = λ seen later r some whole evidence.
        elim (front b [] seen later whole) [
          | inl none ↦ no_evidence role limits group r (evidence_in r seen [] none evidence)
          | inr p ↦ some (nil-parts p.0 later p.2).1
        ];
    is_evident = ByFirst b refl is.is_evident;
    least = λ r evidence. is.least r (first_evidence role limits group r b evidence);
  }

  -- ---- the first two bytes, and those that follow

  module _ (first second : ℕ) (by_first : (r : Reason) → EvidentByFirst limits group r first → ⊥) where
    -- Evidence in a prefix is that of the first two bytes and some that follow.
    pub record IsBehindFirst (reason : Reason) (following seen later : List ℕ) : Type 0 where
      pub came : List ℕ
      pub seen_is : seen ≡ first ∷ second ∷ came
      pub following_is : following ≡ came ++ later
      pub row : BehindFirst role limits group reason first second came

    behind_first : (reason : Reason) (following seen later : List ℕ) → first ∷ second ∷ following ≡ seen ++ later → Evidence role limits group reason seen → IsBehindFirst reason following seen later
    behind_first reason following seen later whole evidence =
        elim (front first (second ∷ following) seen later whole) [
          | inl none ↦ absurd (no_evidence role limits group reason (evidence_in reason seen [] none evidence))
          | inr p ↦ elim (front second following p.0 later p.2) [
            | inl none ↦ absurd (by_first reason (first_evidence role limits group reason first (evidence_in reason seen (first ∷ []) (p.1 ∙ ap (λ (t : List ℕ). first ∷ t) none) evidence)))
            | inr q ↦
                let same : seen ≡ first ∷ second ∷ q.0 = p.1 ∙ ap (λ (t : List ℕ). first ∷ t) q.1 in
                record { came = q.0; seen_is = same; following_is = q.2; row = after_first role limits group reason first second q.0 (evidence_in reason seen (first ∷ second ∷ q.0) same evidence) }
          ]
        ]

    -- The number of bytes that come before a payload.
    counted : (xs ys zs us vs ws : List ℕ) → ws ≡ us ++ vs → us ≡ xs ++ (ys ++ zs) → length ws ≡ length xs + (length ys + length zs) + length vs
    counted xs ys zs us vs ws outer inner =
        let all : length ws ≡ length us + length vs = ap (λ (bs : List ℕ). length bs) outer ∙ length-append us vs in
        let both : length us ≡ length xs + length (ys ++ zs) = ap (λ (bs : List ℕ). length bs) inner ∙ length-append xs (ys ++ zs) in
        omega (arith, all, both, length-append ys zs)

    pub second_refused : (reason : Reason) → IsFirstEvident (λ r. EvidentInSecond role r first second) reason → IsEvidentLast role limits group reason (first ∷ second ∷ [])
    second_refused reason is = record {
      before = λ seen later r some whole evidence.
          let there = behind_first r [] seen later whole evidence in
          some (nil-parts there.came later there.following_is).1;
      is_evident = BySecond first second refl is.is_evident;
      least = least;
    }
      where
        least : (r : Reason) → Evidence role limits group r (first ∷ second ∷ []) → number_of reason ≤ number_of r
        least r evidence =
            let low : number_of reason ≤ 9 = second_number role reason first second is.is_evident in
            elim (after_first role limits group r first second [] evidence) [
              | OfSecond none row ↦ is.least r row
              | OfLength count row ↦ let high = length_number limits group r first second [] row in omega arith
              | OfPayload len key wire whole len_count key_counted row ↦ let high = payload_number group r _ _ _ row in omega (arith, high, low)
            ]

    module _ (by_second : (r : Reason) → EvidentInSecond role r first second → ⊥) where
      -- Some of the length bytes are missing.
      pub length_missing : (following : List ℕ) → length following < length_count (len_form_at second) → IsHeadSoFar role limits group (first ∷ second ∷ following)
      length_missing following short = record {
        short = omega (arith, short);
        has_no_evidence = record { none = none };
      }
        where
          none : (seen later : List ℕ) (reason : Reason) → first ∷ second ∷ following ≡ seen ++ later → Evidence role limits group reason seen → ⊥
          none seen later reason whole evidence =
              let there = behind_first reason following seen later whole evidence in
              let size : length following ≡ length there.came + length later = ap (λ (bs : List ℕ). length bs) there.following_is ∙ length-append there.came later in
              elim there.row [
                | OfSecond nothing row ↦ by_second reason row
                | OfLength count row ↦ omega (arith, size, count, short)
                | OfPayload len key wire is len_count key_counted row ↦ omega (arith, counted len key wire there.came later following there.following_is is, len_count, short)
              ]

      -- ---- all length bytes

      module _ (lengths : List ℕ) (all : length lengths ≡ length_count (len_form_at second)) where
        pub length_refused : (reason : Reason) → IsFirstEvident (λ r. EvidentByLength limits group r first second lengths) reason → number_of reason ≤ 12 → IsEvidentLast role limits group reason (first ∷ second ∷ lengths)
        length_refused reason is low = record {
          before = before;
          is_evident = ByLength first second lengths refl all is.is_evident;
          least = least;
        }
          where
            before : (seen later : List ℕ) (r : Reason) → later ≢ [] → first ∷ second ∷ lengths ≡ seen ++ later → Evidence role limits group r seen → ⊥
            before seen later r some whole evidence =
                let there = behind_first r lengths seen later whole evidence in
                let size : length lengths ≡ length there.came + length later = ap (λ (bs : List ℕ). length bs) there.following_is ∙ length-append there.came later in
                elim there.row [
                  | OfSecond nothing row ↦ by_second r row
                  | OfLength count row ↦ some (no_items later (omega (arith, size, count, all)))
                  | OfPayload len key wire parts len_count key_counted row ↦ some (no_items later (omega (arith, counted len key wire there.came later lengths there.following_is parts, len_count, all)))
                ]

            least : (r : Reason) → Evidence role limits group r (first ∷ second ∷ lengths) → number_of reason ≤ number_of r
            least r evidence =
                elim (after_first role limits group r first second lengths evidence) [
                  | OfSecond nothing row ↦ absurd (by_second r row)
                  | OfLength count row ↦ is.least r row
                  | OfPayload len key wire parts len_count key_counted row ↦ let high = payload_number group r _ _ _ row in omega (arith, high, low)
                ]

        module _ (by_length : (r : Reason) → EvidentByLength limits group r first second lengths → ⊥) where
          -- Evidence in a prefix of the head or of what follows is in the payload so far.
          record IsInPayload (reason : Reason) (following later : List ℕ) : Type 0 where
            pub key : List ℕ
            pub wire : List ℕ
            pub following_is : following ≡ key ++ (wire ++ later)
            pub keyed : length key ≡ key_count second
            pub row : EvidentByPayload group reason first (encoded_length (len_form_at second) lengths) (unmasked second key wire)

          in_payload : (reason : Reason) (following seen later : List ℕ) → first ∷ second ∷ (lengths ++ following) ≡ seen ++ later → Evidence role limits group reason seen → IsInPayload reason following later
          in_payload reason following seen later whole evidence =
              let there = behind_first reason (lengths ++ following) seen later whole evidence in
              elim there.row [
                | OfSecond nothing row ↦ absurd (by_second reason row)
                | OfLength count row ↦
                    let same = same_front lengths there.came following later (all ∙ sym count) there.following_is in
                    absurd (by_length reason (subst (λ (bs : List ℕ). EvidentByLength limits group reason first second bs) (sym same.0) row))
                | OfPayload len key wire parts len_count key_counted row ↦
                    let joined : lengths ++ following ≡ len ++ (key ++ (wire ++ later)) =
                    there.following_is ∙ ap (λ (bs : List ℕ). bs ++ later) parts ∙ append_assoc len (key ++ wire) later ∙ ap (λ (bs : List ℕ). len ++ bs) (append_assoc key wire later) in
                    let same = same_front lengths len following (key ++ (wire ++ later)) (all ∙ sym len_count) joined in
                    record {
                      key = key;
                      wire = wire;
                      following_is = same.1;
                      keyed = key_counted;
                      row = subst (λ (bs : List ℕ). EvidentByPayload group reason first (encoded_length (len_form_at second) bs) (unmasked second key wire)) (sym same.0) row;
                    }
              ]

          -- Some of the key is missing.
          pub key_missing : (came : List ℕ) → length came < key_count second → IsHeadSoFar role limits group (first ∷ second ∷ (lengths ++ came))
          key_missing came short = record {
            short = omega (arith, length-append lengths came, all, short);
            has_no_evidence = record {
              none = λ seen later reason whole evidence.
                  let there = in_payload reason came seen later whole evidence in
                  let size : length came ≡ length there.key + length (there.wire ++ later) = ap (λ (bs : List ℕ). length bs) there.following_is ∙ length-append there.key (there.wire ++ later) in
                  omega (arith, size, there.keyed, short);
            };
          }

          -- With the key, only an empty payload may be evidence.
          pub at_head_end : (key : List ℕ) → length key ≡ key_count second → (seen later : List ℕ) (reason : Reason) → first ∷ second ∷ (lengths ++ key) ≡ seen ++ later
              → Evidence role limits group reason seen → (later ≡ []) × EvidentByPayload group reason first (encoded_length (len_form_at second) lengths) []
          at_head_end key keyed seen later reason whole evidence =
              let there = in_payload reason key seen later whole evidence in
              let nothing : [] ≡ there.wire ++ later = (same_front key there.key [] (there.wire ++ later) (keyed ∙ sym there.keyed) (append-nil key ∙ there.following_is)).1 in
              let nones = nil-parts there.wire later nothing in
              (nones.1, subst (λ (bs : List ℕ). EvidentByPayload group reason first (encoded_length (len_form_at second) lengths) bs) (unmasked-nil second there.key there.wire nones.0) there.row)

  -- ---- a length that is read after two bytes

  module _ (f : FirstByte) (encoded : LenForm) (second : ℕ) (two : HasTwoBytes role limits group f encoded second) (following : List ℕ) where
    abbrev pub opening : ℕ
    opening = first_byte f.fin f.op

    masks : (mask_bit second ≡ true) ↔ (role ≡ Client)
    masks = masked_for role (mask_bit second) (two.by_second MaskMissing) (two.by_second MaskPresent)

    pub length_lacks : length following < length_count encoded → IsHeadSoFar role limits group (opening ∷ second ∷ following)
    length_lacks short = length_missing opening second two.by_first two.by_second following (subst (λ (g : LenForm). length following < length_count g) two.encoded_is short)

    module _ (count : ℕ) (count_is : count ≡ length_count encoded) (within : count ≤ length following) where
      abbrev pub lengths : List ℕ
      lengths = take count following

      counted_is : length lengths ≡ length_count encoded
      counted_is = length-take-le count following within ∙ count_is

      all : length lengths ≡ length_count (len_form_at second)
      all = counted_is ∙ ap length_count two.encoded_is

      in_form : (r : Reason) → EvidentInLength limits.lengths r (len_form_at second) lengths → EvidentInLength limits.lengths r encoded lengths
      in_form r row = subst (λ (g : LenForm). EvidentInLength limits.lengths r g lengths) (sym two.encoded_is) row

      refused_there : (reason : Reason) → IsFirstEvident (λ r. EvidentByLength limits group r opening second lengths) reason → number_of reason ≤ 12
          → IsShort (take (2 + count - 1) (opening ∷ second ∷ following)) × IsEvidentLast role limits group reason (take (2 + count) (opening ∷ second ∷ following))
      refused_there reason is low = (
        short_before opening second following count (count_is ∙ ap length_count two.encoded_is) within,
        subst (λ (bs : List ℕ). IsEvidentLast role limits group reason bs) (sym (take_after_two opening second following count)) (length_refused opening second two.by_first two.by_second lengths all reason is low),
      )

      -- The encoding is refused.
      pub encoding_refused : (reason : Reason) → IsFirstEvident (λ r. EvidentInLength limits.lengths r encoded lengths) reason
          → IsShort (take (2 + count - 1) (opening ∷ second ∷ following)) × IsEvidentLast role limits group reason (take (2 + count) (opening ∷ second ∷ following))
      encoding_refused reason is =
          let own = subst (λ (g : LenForm). EvidentInLength limits.lengths reason g lengths) two.encoded_is is.is_evident in
          let low : number_of reason ≤ 11 = encoding_number limits.lengths reason (len_form_at second) lengths own in
          refused_there reason (record {
            is_evident = encoding_row limits group reason opening second lengths own;
            least = λ r row. elim (length_row limits group r opening second lengths row) [
              | inl encoded_row ↦ is.least r (in_form r encoded_row)
              | inr p ↦ let twelve : number_of r ≡ 12 = ap number_of p.0 in omega (arith, low, twelve)
            ];
          }) (omega (arith, low))

      module _ (len : ℕ) (len_is : len ≡ encoded_length encoded lengths) (by_length : (r : Reason) → EvidentInLength limits.lengths r encoded lengths → ⊥) where
        -- This payload makes the message longer than the limit.
        abbrev pub IsTooBig : Type 0
        IsTooBig = IsDataOpcode (opcode f.op) × (limits.message < length (payload_of group) + len)

        reported : len ≡ encoded_length (len_form_at second) lengths
        reported = len_is ∙ ap (λ (g : LenForm). encoded_length g lengths) two.encoded_is

        opcode_is : opcode_field opening ≡ opcode f.op
        opcode_is = (first_byte_fields f.fin f.op).opcode_is

        pub too_big : IsTooBig → IsShort (take (2 + count - 1) (opening ∷ second ∷ following)) × IsEvidentLast role limits group MessageTooBig (take (2 + count) (opening ∷ second ∷ following))
        too_big big =
            refused_there MessageTooBig (record {
              is_evident = (subst IsDataOpcode (sym opcode_is) big.0, subst (λ (n : ℕ). limits.message < length (payload_of group) + n) reported big.1);
              least = λ r row. elim (length_row limits group r opening second lengths row) [
                | inl encoded_row ↦ absurd (by_length r (in_form r encoded_row))
                | inr p ↦ let twelve : number_of r ≡ 12 = ap number_of p.0 in omega (arith, twelve)
              ];
            }) (omega arith)

        module _ (fits : IsTooBig → ⊥) where
          no_row : (r : Reason) → EvidentByLength limits group r opening second lengths → ⊥
          no_row r row =
              elim (length_row limits group r opening second lengths row) [
                | inl encoded_row ↦ by_length r (in_form r encoded_row)
                | inr p ↦ fits (subst IsDataOpcode opcode_is p.1.0, subst (λ (n : ℕ). limits.message < length (payload_of group) + n) (sym reported) p.1.1)
              ]

          -- A client's key is four bytes.
          pub key_lacks : role ≡ Client → length (drop count following) < 4 → IsHeadSoFar role limits group (opening ∷ second ∷ following)
          key_lacks client short =
              let four : key_count second ≡ 4 = ap (λ (b : Bool). cond b 4 0) (masks.1 client) in
              subst (λ (bs : List ℕ). IsHeadSoFar role limits group (opening ∷ second ∷ bs)) (take-append-drop count following)
              (key_missing opening second two.by_first two.by_second lengths all no_row (drop count following) (omega (arith, four, short)))

          pub whole_head : (key : Option (List ℕ)) (size n : ℕ) → IsBytes following → (IsSome key ↔ (role ≡ Client)) → IfSome key IsKey → size ≡ 2 + (count + n) → key_bytes key ≡ take n (drop count following)
              → IsHead role limits group (record { first = f; encoded = encoded; len = len; key = key }) (take size (opening ∷ second ∷ following))
          whole_head key size n in_bytes keyed of_four size_is key_is = record {
            second = second;
            lengths = lengths;
            whole = whole;
            encoded = two.encoded_is;
            masked = masked;
            keyed = keyed;
            of_four = of_four;
            counted = counted_is;
            reported = len_is;
            in_bytes = bytes_take size (opening ∷ second ∷ following) (two.in_bytes.0, (two.in_bytes.1.0, in_bytes));
            has_no_evidence = λ seen later reason is evidence.
                let there = at_head_end opening second two.by_first two.by_second lengths all no_row (key_bytes key) key_counted seen later reason (sym whole ∙ is) evidence in
                (there.0, subst (λ (m : ℕ). EvidentByPayload group reason opening m []) (sym reported) there.1);
          }
            where
              whole : take size (opening ∷ second ∷ following) ≡ opening ∷ second ∷ (lengths ++ key_bytes key)
              whole =
                  ap (λ (m : ℕ). take m (opening ∷ second ∷ following)) size_is ∙ take_after_two opening second following (count + n)
                  ∙ ap (λ (bs : List ℕ). opening ∷ second ∷ bs) (take-add count n following ∙ ap (λ (bs : List ℕ). lengths ++ bs) (sym key_is))

              of_bools : (b : Bool) (k : Option (List ℕ)) → ((b ≡ true) ↔ (role ≡ Client)) → (IsSome k ↔ (role ≡ Client)) → b ≡ is_some k
              of_bools true None m k = absurd (false≢true (k.1 (m.0 refl)))
              of_bools true (Some bs) m k = refl
              of_bools false None m k = refl
              of_bools false (Some bs) m k = absurd (false≢true (m.1 (k.0 refl)))

              masked : mask_bit second ≡ is_some key
              masked = of_bools (mask_bit second) key masks keyed

              key_counted : length (key_bytes key) ≡ key_count second
              key_counted = key_bytes_count key of_four ∙ ap (λ (b : Bool). cond b 4 0) (sym masked)
