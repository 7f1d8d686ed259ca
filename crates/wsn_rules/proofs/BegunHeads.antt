-- A whole head at the front of bytes: what has come after it, and that there is one unless a part of it is missing.
use Rattle.std.proofs.Common.{◌≡◌, ◌≢◌, ℕ, ◌+◌, ◌-◌, ◌≤◌, Bool, true, not, Option, List, [], ◌∷◌, ◌++◌, ◌⊎◌, length, if◌then◌else◌, refl, sym, ap, ◌∙◌, subst, inl, inr, append-nil, append_assoc, length-append, arith}
use Rattle.std.specs.Prelude.{◌↔◌, is_some}
use Rattle.std.proofs.lemmas.Bool.{cases_lt}
use Rattle.wsn_wire.specs.declared.endpoint.Role.{Role}
use Rattle.wsn_wire.specs.declared.length_encoding.LenForm.{LenForm}
use Rattle.wsn_wire.specs.declared.opcode.Op.TheVariants.{Continue}
use Rattle.wsn_wire.specs.declared.refusal.Reason.{Reason}
use Rattle.wsn_wire.specs.declared.refusal.Reason.TheVariants.{NothingToContinue, MessageOpen}
use Rattle.wsn_wire.specs.Frame.{Frame, opcode, first_byte, second_byte, len_form_of, length_bytes, key_bytes, head_bytes, stream, is_control, wire_payload}
use Rattle.wsn_wire.specs.ReceivedHead.{HasLayout, opcode_field, mask_bit, len_form_at, length_count, encoded_length, key_count}
use Rattle.wsn_wire.specs.EvidenceInHeads.{HeadHasNoEvidence}
use Rattle.wsn_wire.proofs.FrameLemmas.{IsFirstByteOf, first_byte_fields, second_byte_fields, length_bytes_fields, spells-len_form_of, key_bytes_count, fronts_agree, length-wire_payload, frame_at}
use Rattle.wsn_wire.proofs.HeadLemmas.{IsSpelledBy, frame_of_layout}
use Rattle.wsn_rules.specs.declared.head_info.HeadInfo.{HeadInfo}
use Rattle.wsn_rules.specs.declared.verdict.Refusal.{Refusal}
use Rattle.wsn_rules.specs.Limits.{Limits}
use Rattle.wsn_rules.specs.Evidence.{Evidence, EvidentByFirst}
use Rattle.wsn_rules.specs.Evidence.Evidence.{ByFirst, BySecond, ByLength, ByPayload}
use Rattle.wsn_rules.specs.Group.{unfinished}
use Rattle.wsn_rules.specs.Heads.{BeginsWithHead, info_of}
use Rattle.wsn_rules.specs.Verdict.{ComesFirst, EndsWithinFrame, IsCut, IsEvidentAt, IsRefused}
use Rattle.wsn_rules.specs.ShownOffsets.{begun_bytes}
use Rattle.wsn_rules.specs.ShownOffsets.{IsEncodableHead, IsPartOfHead, HasBegun, AreOfOneFrame, IsEvidenceIn}
use Rattle.wsn_rules.specs.BadCharacter.{BadCharacter}
use Rattle.wsn_rules.specs.ShownStream.{IsShownEvidence}
use Rattle.wsn_rules.proofs.Prefixes.{two_fronts}
use Rattle.wsn_rules.proofs.HeadEvidence.{first_row, encoding_row}
use Rattle.wsn_rules.proofs.LeastEvident.{evidence_is_some}
use Rattle.wsn_rules.proofs.MessageText.{continue_or_not, opcode_of_beginning}

-- ---- the parts of bytes that begin with a whole head

pub record SameParts (info : HeadInfo) (following : List ℕ) (first second : ℕ) (len key rest : List ℕ) : Type 0 where
  pub first_is : first_byte info.fin info.op ≡ first
  pub following_is : following ≡ rest
  pub len_is : info.len ≡ encoded_length (len_form_at second) len
  pub mask_is : mask_bit second ≡ is_some info.key
  pub key_is : key_bytes info.key ≡ key

pub same_parts : (info : HeadInfo) (following : List ℕ) (first second : ℕ) (len key rest : List ℕ) → IsEncodableHead info → begun_bytes info following ≡ first ∷ second ∷ (len ++ (key ++ rest)) → length len ≡ length_count (len_form_at second)
    → length key ≡ key_count second → SameParts info following first second len key rest
same_parts info following first second len key rest is same len_count key_counted =
    let field = len_form_of info.form info.len in
    let lengths = length_bytes field info.len in
    let keys = key_bytes info.key in
    let spells = spells-len_form_of info.form info.len is.form is.size in
    let of_second = second_byte_fields info.key field info.len spells in
    let of_length = length_bytes_fields field info.len spells in
    let tail : List ℕ = (lengths ++ keys) ++ following in
    let other_tail : List ℕ = len ++ (key ++ rest) in
    let parts : first_byte info.fin info.op ∷ second_byte info.key field ∷ tail ≡ first ∷ second ∷ other_tail = same in
    let seconds : second_byte info.key field ≡ second = cc in
    let tails : tail ≡ other_tail = cc in
    let field_is : len_form_at second ≡ field = ap len_form_at (sym seconds) ∙ of_second.field_is in
    let mask : mask_bit second ≡ mask_bit (second_byte info.key field) = ap mask_bit (sym seconds) in
    let after_lengths : lengths ++ (keys ++ following) ≡ len ++ (key ++ rest) = sym (append_assoc lengths keys following) ∙ tails in
    let same_lengths = fronts_agree lengths len (keys ++ following) (key ++ rest) (of_length.count ∙ ap length_count (sym field_is) ∙ sym len_count) after_lengths in
    let counts : length keys ≡ length key =
    key_bytes_count info.key is.key ∙ ap (λ (b : Bool). if b then 4 else 0) (sym of_second.mask_is ∙ sym mask) ∙ sym key_counted in
    let same_keys = fronts_agree keys key following rest counts same_lengths.1 in
    let firsts : first_byte info.fin info.op ≡ first = cc in
    record {
      first_is = firsts;
      following_is = same_keys.1;
      len_is = sym of_length.decoded ∙ ap (λ (bs : List ℕ). encoded_length field bs) same_lengths.0 ∙ ap (λ (f : LenForm). encoded_length f len) (sym field_is);
      mask_is = mask ∙ of_second.mask_is;
      key_is = same_keys.0;
    }

-- After the second byte at least the length and the key have come.
pub head_came : (info : HeadInfo) (following : List ℕ) (first second : ℕ) (came : List ℕ) → IsEncodableHead info → begun_bytes info following ≡ first ∷ second ∷ came → length_count (len_form_at second) + key_count second ≤ length came
head_came info following first second came is same =
    let field = len_form_of info.form info.len in
    let lengths = length_bytes field info.len in
    let keys = key_bytes info.key in
    let spells = spells-len_form_of info.form info.len is.form is.size in
    let of_second = second_byte_fields info.key field info.len spells in
    let of_length = length_bytes_fields field info.len spells in
    let parts : first_byte info.fin info.op ∷ second_byte info.key field ∷ ((lengths ++ keys) ++ following) ≡ first ∷ second ∷ came = same in
    let seconds : second_byte info.key field ≡ second = cc in
    let tails : (lengths ++ keys) ++ following ≡ came = cc in
    let of_len : length lengths ≡ length_count (len_form_at second) = of_length.count ∙ ap length_count (sym of_second.field_is ∙ ap len_form_at seconds) in
    let of_key : length keys ≡ key_count second = key_bytes_count info.key is.key ∙ ap (λ (b : Bool). if b then 4 else 0) (sym of_second.mask_is ∙ ap mask_bit seconds) in
    let sizes : length came ≡ (length lengths + length keys) + length following =
    ap (λ (bs : List ℕ). length bs) (sym tails) ∙ length-append (lengths ++ keys) following ∙ ap (λ n. n + length following) (length-append lengths keys) in
    omega (arith, of_len, of_key, sizes)

-- ---- a frame that lacks bytes

-- Bytes with the layout of a frame that begin with this head have as much payload as the head says.
whole_payload : (info : HeadInfo) (following missing : List ℕ) → IsEncodableHead info → HasLayout (begun_bytes info following ++ missing) → length following + length missing ≡ info.len
whole_payload info following missing is l =
    let head = head_bytes info.fin info.op info.key info.form info.len in
    let parts = same_parts info (following ++ missing) l.first l.second l.len l.key l.payload is (sym (append_assoc head following missing) ∙ l.whole) l.len_count l.key_counted in
    sym (length-append following missing) ∙ ap (λ (bs : List ℕ). length bs) parts.following_is ∙ l.payload_count ∙ sym parts.len_is

-- Where the bytes end inside a frame, the frame has begun and lacks some bytes.
pub has_begun : (info : HeadInfo) (following : List ℕ) → IsEncodableHead info → EndsWithinFrame (begun_bytes info following) → HasBegun info following (info.len - length (wire_payload info.key following))
has_begun info following is within =
    let all = whole_payload info following within.0 is within.2 in
    let some = some_of within.0 within.1 in
    let part = length-wire_payload info.key following in
    record { head = is; some = omega (arith, all, some, part); exact = omega (arith, all, some, part) }
  where
    some_of : (bytes : List ℕ) → bytes ≢ [] → 1 ≤ length bytes
    some_of [] not_none = absurd (not_none refl)
    some_of (b ∷ bytes) not_none = omega arith

-- ---- evidence is in one frame

module _ (role : Role) (limits : Limits) where
  pub of_one_frame : (group : List Frame) (reason : Reason) (seen : List ℕ) → Evidence role limits group reason seen → AreOfOneFrame seen
  of_one_frame group reason seen (ByFirst first is row) info following of same = absurd (short (sym same ∙ is))
    where
      short : {a b c : ℕ} {bs : List ℕ} → a ∷ b ∷ bs ≡ c ∷ [] → ⊥
      short e = cc
  of_one_frame group reason seen (BySecond first second is row) info following of same =
      let all : length (begun_bytes info following) ≡ 2 = ap (λ (bs : List ℕ). length bs) (sym same ∙ is) in
      let size = length-append (head_bytes info.fin info.op info.key info.form info.len) following in
      let head : 2 ≤ length (head_bytes info.fin info.op info.key info.form info.len) = omega arith in
      omega (arith, all, size, head)
  of_one_frame group reason seen (ByLength first second len is count row) info following of same =
      let whole : begun_bytes info following ≡ first ∷ second ∷ len = sym same ∙ is in
      let field = len_form_of info.form info.len in
      let lengths = length_bytes field info.len in
      let keys = key_bytes info.key in
      let spells = spells-len_form_of info.form info.len of.form of.size in
      let of_second = second_byte_fields info.key field info.len spells in
      let of_length = length_bytes_fields field info.len spells in
      let parts : first_byte info.fin info.op ∷ second_byte info.key field ∷ ((lengths ++ keys) ++ following) ≡ first ∷ second ∷ len = whole in
      let seconds : second_byte info.key field ≡ second = cc in
      let tails : (lengths ++ keys) ++ following ≡ len = cc in
      let counted : length lengths ≡ length len = of_length.count ∙ ap length_count (sym of_second.field_is ∙ ap len_form_at seconds) ∙ sym count in
      let sizes : length len ≡ (length lengths + length keys) + length following =
      ap (λ (bs : List ℕ). length bs) (sym tails) ∙ length-append (lengths ++ keys) following ∙ ap (λ n. n + length following) (length-append lengths keys) in
      omega (arith, counted, sizes)
  of_one_frame group reason seen (ByPayload p row) info following of same =
      let parts = same_parts info following p.first p.second p.len p.key p.wire of (sym same ∙ p.whole) p.len_count p.key_counted in
      let within = p.within in
      let size : length following ≡ length p.wire = ap (λ (bs : List ℕ). length bs) parts.following_is in
      let len = parts.len_is in
      omega (arith, within, size, len)

  -- ---- a head without evidence

  -- The bytes begin with a whole head, which is evidence for no refusal if all evidence comes after it.
  pub begins_with : (bytes : List ℕ) (fs : List Frame) (rest later : List ℕ) → bytes ≡ stream fs ++ (rest ++ later) → (info : HeadInfo) (following : List ℕ) → IsEncodableHead info → rest ≡ begun_bytes info following
      → ((p : ℕ) (r : Reason) → IsEvidentAt role limits bytes fs p r → length (stream fs) + length (head_bytes info.fin info.op info.key info.form info.len) ≤ p)
      → (begun : BeginsWithHead role limits fs rest (record info { offset = length (stream fs) })) × (begun.following ≡ following)
  begins_with bytes fs rest later whole info following is rest_is quiet = (
    record {
      head = head_bytes info.fin info.op info.key info.form info.len;
      following = following;
      whole = rest_is;
      offset = refl;
      encoded = refl;
      key = is.key;
      form = is.form;
      size = is.size;
      has_no_evidence = record { none = none };
    },
    refl,
  )
    where
      none : (seen after : List ℕ) (reason : Reason) → head_bytes info.fin info.op info.key info.form info.len ≡ seen ++ after → Evidence role limits (unfinished fs) reason seen → ⊥
      none seen after reason head_is evidence =
          let some = evidence_is_some role limits (unfinished fs) reason seen evidence in
          let offset = (length (stream fs) + length seen) - 1 in
          let all : bytes ≡ stream fs ++ (seen ++ (after ++ (following ++ later))) =
          whole ∙ ap (λ (bs : List ℕ). stream fs ++ bs)
          (ap (λ (bs : List ℕ). bs ++ later) (rest_is ∙ ap (λ (bs : List ℕ). bs ++ following) head_is) ∙ append_assoc (seen ++ after) following later ∙ append_assoc seen after (following ++ later)) in
          let is_evident : IsEvidentAt role limits bytes fs offset reason = record {
            seen = seen;
            later = after ++ (following ++ later);
            whole = all;
            at_offset = omega (arith, some);
            evidence = evidence;
          } in
          let past = quiet offset reason is_evident in
          let size : length (head_bytes info.fin info.op info.key info.form info.len) ≡ length seen + length after = ap (λ (bs : List ℕ). length bs) head_is ∙ length-append seen after in
          omega (arith, past, size, some)

  pub encodable_begun : (fs : List Frame) (rest : List ℕ) (info : HeadInfo) → BeginsWithHead role limits fs rest info → IsEncodableHead info
  encodable_begun fs rest info begun = record { key = begun.key; form = begun.form; size = begun.size }

  pub begun_is : (fs : List Frame) (rest : List ℕ) (info : HeadInfo) (begun : BeginsWithHead role limits fs rest info) → rest ≡ begun_bytes info begun.following
  begun_is fs rest info begun = begun.whole ∙ ap (λ (bs : List ℕ). bs ++ begun.following) begun.encoded

  -- A head without evidence continues a message exactly if one is open.
  pub continues : (fs : List Frame) (rest : List ℕ) (info : HeadInfo) → BeginsWithHead role limits fs rest info → not (is_control info.op) ≡ true → (info.op ≡ Continue) ↔ (unfinished fs ≢ [])
  continues fs rest info begun data_frame = (λ is none. first NothingToContinue (of_first.opcode_is ∙ ap opcode is, none), open_one)
    where
      of_first : IsFirstByteOf info.fin info.op (first_byte info.fin info.op)
      of_first = first_byte_fields info.fin info.op

      tail : List ℕ
      tail = second_byte info.key (len_form_of info.form info.len) ∷ (length_bytes (len_form_of info.form info.len) info.len ++ key_bytes info.key)

      first : (reason : Reason) → EvidentByFirst limits (unfinished fs) reason (first_byte info.fin info.op) → ⊥
      first reason row = begun.has_no_evidence.none (first_byte info.fin info.op ∷ []) tail reason begun.encoded (ByFirst (first_byte info.fin info.op) refl row)

      open_one : unfinished fs ≢ [] → info.op ≡ Continue
      open_one some =
          elim (continue_or_not info.op) [
            | inl is ↦ is
            | inr other ↦
                let one_or_two : (opcode_field (first_byte info.fin info.op) ≡ 1) ⊎ (opcode_field (first_byte info.fin info.op) ≡ 2) =
                elim (opcode_of_beginning info.op data_frame other) [ inl one ↦ inl (of_first.opcode_is ∙ one) | inr two ↦ inr (of_first.opcode_is ∙ two) ] in
                absurd (first MessageOpen (one_or_two, some))
          ]

  -- ---- a part of a head

  module _ (bytes : List ℕ) (fs : List Frame) (c : IsCut role limits bytes fs) where
    no_prefix : (seen later : List ℕ) (reason : Reason) → c.rest ≡ seen ++ later → Evidence role limits (unfinished fs) reason seen → ⊥
    no_prefix seen later reason is evidence =
        let some = evidence_is_some role limits (unfinished fs) reason seen evidence in
        c.has_no_evidence ((length (stream fs) + length seen) - 1) reason
        (record {
          seen = seen;
          later = later;
          whole = c.whole ∙ ap (λ (bs : List ℕ). stream fs ++ bs) is;
          at_offset = omega (arith, some);
          evidence = evidence;
        })

    -- If the length and the key have come, the head is whole.
    whole_head : (first second : ℕ) (came : List ℕ) → c.rest ≡ first ∷ second ∷ came → length_count (len_form_at second) + key_count second ≤ length came
        → (info : HeadInfo) × (following : List ℕ) × IsEncodableHead info × (c.rest ≡ begun_bytes info following)
    whole_head first second came is long = (info_of (length (stream fs)) f, came_after.0, of, came_after.1)
      where
        l : HasLayout (c.rest ++ c.within.0)
        l = c.within.2

        parts : first ∷ second ∷ (came ++ c.within.0) ≡ l.first ∷ l.second ∷ (l.len ++ (l.key ++ l.payload))
        parts = ap (λ (bs : List ℕ). bs ++ c.within.0) (sym is) ∙ l.whole

        firsts : first ≡ l.first
        firsts = let e = parts in cc

        seconds : second ≡ l.second
        seconds = let e = parts in cc

        tails : came ++ c.within.0 ≡ l.len ++ (l.key ++ l.payload)
        tails = let e = parts in cc

        counts : length (l.len ++ l.key) ≤ length came
        counts =
            let size : length (l.len ++ l.key) ≡ length_count (len_form_at second) + key_count second =
            length-append l.len l.key ∙ ap (λ n. n + length l.key) (l.len_count ∙ ap (λ s. length_count (len_form_at s)) (sym seconds)) ∙ ap (λ n. length_count (len_form_at second) + n) (l.key_counted ∙ ap key_count (sym seconds)) in
            omega (arith, size, long)

        no_more : (xs ys zs : List ℕ) → ys ≡ xs ++ zs → length ys ≤ length xs → xs ≡ ys ++ []
        no_more xs ys [] e fits = sym (append-nil xs) ∙ sym e ∙ sym (append-nil ys)
        no_more xs ys (z ∷ zs) e fits = let size : length ys ≡ length xs + length (z ∷ zs) = ap (λ (bs : List ℕ). length bs) e ∙ length-append xs (z ∷ zs) in absurd (omega (arith, size, fits))

        front_of : (xs ys r s : List ℕ) → xs ++ r ≡ ys ++ s → length ys ≤ length xs → (more : List ℕ) × (xs ≡ ys ++ more)
        front_of xs ys r s e fits =
            elim (two_fronts xs ys r s e) [
              | inl p ↦ ([], no_more xs ys p.0 p.1 fits)
              | inr p ↦ (p.0, p.1)
            ]

        rest_came : (more : List ℕ) × (came ≡ (l.len ++ l.key) ++ more)
        rest_came = front_of came (l.len ++ l.key) c.within.0 l.payload (tails ∙ sym (append_assoc l.len l.key l.payload)) counts

        rest_is : c.rest ≡ l.first ∷ l.second ∷ (l.len ++ (l.key ++ rest_came.0))
        rest_is =
            is ∙ ap (λ n. n ∷ second ∷ came) firsts ∙ ap (λ n. l.first ∷ n ∷ came) seconds
            ∙ ap (λ (bs : List ℕ). l.first ∷ l.second ∷ bs) (rest_came.1 ∙ append_assoc l.len l.key rest_came.0)

        shows : HeadHasNoEvidence role limits.lengths l.first l.second l.len
        shows = record {
          by_first = λ reason row. no_prefix (l.first ∷ []) (l.second ∷ (l.len ++ (l.key ++ rest_came.0))) reason rest_is (ByFirst l.first refl (first_row limits (unfinished fs) reason l.first row));
          by_second = λ reason row. no_prefix (l.first ∷ l.second ∷ []) (l.len ++ (l.key ++ rest_came.0)) reason rest_is (BySecond l.first l.second refl row);
          by_length = λ reason row.
              no_prefix (l.first ∷ l.second ∷ l.len) (l.key ++ rest_came.0) reason rest_is
              (ByLength l.first l.second l.len refl l.len_count (encoding_row limits (unfinished fs) reason l.first l.second l.len row));
        }

        f : Frame
        f = frame_at l.first l.second l.key l.payload

        encoded : IsSpelledBy role limits.lengths l f
        encoded = frame_of_layout role limits.lengths (c.rest ++ c.within.0) l shows

        of : IsEncodableHead (info_of (length (stream fs)) f)
        of = record { key = encoded.owed.encodable.key; form = encoded.owed.encodable.form; size = encoded.owed.encodable.size }

        came_after : (following : List ℕ) × (c.rest ≡ begun_bytes (info_of (length (stream fs)) f) following)
        came_after =
            let head = head_bytes f.fin f.op f.key f.form (length f.payload) in
            let wire = wire_payload f.key f.payload in
            let whole : head ++ wire ≡ l.first ∷ l.second ∷ (l.len ++ (l.key ++ l.payload)) = encoded.bytes_are ∙ l.whole in
            let same = same_parts (info_of (length (stream fs)) f) wire l.first l.second l.len l.key l.payload of whole l.len_count l.key_counted in
            let tail : length wire ≡ length l.payload = ap (λ (bs : List ℕ). length bs) same.following_is in
            let size : length head + length wire ≡ 2 + (length l.len + (length l.key + length l.payload)) =
            sym (length-append head wire) ∙ ap (λ (bs : List ℕ). length bs) whole ∙ two_more l.first l.second l.len l.key l.payload in
            let all : length c.rest ≡ 2 + (length l.len + (length l.key + length rest_came.0)) = ap (λ (bs : List ℕ). length bs) rest_is ∙ two_more l.first l.second l.len l.key rest_came.0 in
            front_of c.rest head c.within.0 wire (sym encoded.bytes_are) (omega (arith, tail, size, all))
          where
            two_more : (a b : ℕ) (xs ys zs : List ℕ) → length (a ∷ b ∷ (xs ++ (ys ++ zs))) ≡ 2 + (length xs + (length ys + length zs))
            two_more a b xs ys zs = let outer = length-append xs (ys ++ zs) in let inner = length-append ys zs in omega (arith, outer, inner)

    pub is_part_of_head : c.rest ≢ [] → ((info : HeadInfo) (following : List ℕ) → IsEncodableHead info → c.rest ≡ begun_bytes info following → ⊥) → IsPartOfHead c.rest
    is_part_of_head some not_whole = by c.rest refl
      where
        by : (rest : List ℕ) → c.rest ≡ rest → IsPartOfHead c.rest
        by [] is = absurd (some is)
        by (first ∷ []) is = subst IsPartOfHead (sym is) tt
        by (first ∷ second ∷ came) is =
            elim (cases_lt (length came) (length_count (len_form_at second) + key_count second)) [
              | inl short ↦ subst IsPartOfHead (sym is) short
              | inr long ↦ let whole = whole_head first second came is long in absurd (not_whole whole.0 whole.1 whole.2 whole.3)
            ]

  -- ---- the evidence of a refused frame

  pub shown_evidence : (bytes : List ℕ) (fs : List Frame) (refusal : Refusal) (refused : IsRefused role limits bytes fs refusal.offset refusal.reason) (evidence : List ℕ) (character : Option BadCharacter) → IsShownEvidence role limits fs refusal.reason refused.is_evident.seen evidence character
      → IsEvidenceIn refused.is_evident.seen evidence
  shown_evidence bytes fs refusal refused evidence character (inl p) =
      inl (p.0, p.1.following, encodable_begun fs refused.is_evident.seen p.0 p.1, p.2, begun_is fs refused.is_evident.seen p.0 p.1, p.3)
  shown_evidence bytes fs refusal refused evidence character (inr p) = inr (none, p.1)
    where
      none : (info : HeadInfo) (following : List ℕ) → IsEncodableHead info → refused.is_evident.seen ≡ begun_bytes info following → following ≡ []
      none info [] is e = refl
      none info (b ∷ following) is e =
          let head = head_bytes info.fin info.op info.key info.form info.len in
          let size : length refused.is_evident.seen ≡ length (head_bytes info.fin info.op info.key info.form info.len) + length (b ∷ following) = ap (λ (bs : List ℕ). length bs) e ∙ length-append head (b ∷ following) in
          let stops = refused.is_evident.at_offset in
          let quiet : (q : ℕ) (r : Reason) → IsEvidentAt role limits bytes fs q r → length (stream fs) + length (head_bytes info.fin info.op info.key info.form info.len) ≤ q =
          λ q r ev. past q r (refused.least q r ev) size stops in
          let begun = begins_with bytes fs refused.is_evident.seen refused.is_evident.later refused.is_evident.whole info (b ∷ following) is e quiet in
          sym begun.1 ∙ p.0 (record info { offset = length (stream fs) }) begun.0
        where
          past : (q : ℕ) (r : Reason) → ComesFirst refusal.offset refusal.reason q r
              → length refused.is_evident.seen ≡ length (head_bytes info.fin info.op info.key info.form info.len) + length (b ∷ following)
              → refusal.offset + 1 ≡ length (stream fs) + length refused.is_evident.seen
              → length (stream fs) + length (head_bytes info.fin info.op info.key info.form info.len) ≤ q
          past q r (inl later) size stops = omega (arith, later, size, stops)
          past q r (inr same) size stops = let here = same.0 in omega (arith, here, size, stops)
