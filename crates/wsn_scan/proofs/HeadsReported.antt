-- The heads that are reported: those of whole frames, and of one that has begun.
use Rattle.std.proofs.Common.{◌≡◌, ℕ, ◌+◌, ◌<◌, Bool, cond, is_some, List, [], ◌∷◌, ◌++◌, length, inl, inr, refl, sym, ap, ◌∙◌, subst, arith, append_assoc, append-nil, length-append}
use Rattle.wsn_wire.specs.declared.endpoint.Role.{Role}
use Rattle.wsn_wire.specs.declared.refusal.Reason.{Reason}
use Rattle.wsn_wire.specs.declared.length_encoding.Form.{Form}
use Rattle.wsn_wire.specs.declared.length_encoding.LenForm.{LenForm}
use Rattle.wsn_wire.specs.declared.length_encoding.LenForm.TheVariants as len_form
use Rattle.wsn_wire.specs.Frame.{Frame, IsBytes, IsEncodable, FormFits, first_byte, second_byte, len_form_of, length_bytes, key_bytes, head_bytes, wire_payload, frame_bytes, stream}
use Rattle.wsn_wire.specs.ReceivedHead.{HasLayout, mask_bit, len_form_at, length_count, encoded_length, key_count}
use Rattle.wsn_wire.specs.EvidenceInHeads.{HeadHasNoEvidence}
use Rattle.wsn_wire.proofs.FrameLemmas.{IsBytes-append, first_byte_fields, second_byte_fields, length_bytes_fields, spells-len_form_of, key_bytes_count, op_at, op_at-opcode, key_at, key_at-key_bytes, form_at, frame_at, fronts_agree, length-wire_payload}
use Rattle.wsn_wire.proofs.HeadLemmas.{frame_of_layout}
use Rattle.wsn_rules.specs.declared.head_info.HeadInfo.{HeadInfo}
use Rattle.wsn_frame.specs.declared.heads.Head.{Head}
use Rattle.wsn_rules.specs.Limits.{Limits}
use Rattle.wsn_rules.specs.Group.{unfinished}
use Rattle.wsn_rules.specs.Evidence.{Evidence, HasNoEvidence}
use Rattle.wsn_rules.specs.Evidence.Evidence.{ByFirst, BySecond, ByLength}
use Rattle.wsn_frame.specs.PartialHeads.{IsShort, IsHead, encoded_form, info_at}
use Rattle.wsn_rules.specs.Heads.{info_of, heads_from, heads_of, BeginsWithHead, IsBegun}
use Rattle.wsn_rules.proofs.Prefixes.{two_fronts}
use Rattle.wsn_rules.proofs.HeadEvidence.{first_row, encoding_row}
use Rattle.wsn_rules.proofs.HeadsGoOn.{begins_two, begins_longer}
use Rattle.wsn_rules.proofs.LayoutPrefixes.{layout_of, zeros, length-zeros, zeros_bytes}
use Rattle.wsn_rules.specs.Lawful.{IsLawful}
use Rattle.wsn_rules.proofs.LawfulLists.{law_at_split}
use Rattle.wsn_rules.proofs.OneVerdict.{lawful_frame_shows_nothing}
use Rattle.wsn_frame.proofs.HeadsAtOnce.{no_items}

-- ---- whole frames

heads_from_push : (offset : ℕ) (fs : List Frame) (f : Frame) → heads_from offset (fs ++ f ∷ []) ≡ heads_from offset fs ++ info_of (offset + length (stream fs)) f ∷ []
heads_from_push offset [] f = let here : offset ≡ offset + 0 = omega arith in ap (λ (n : ℕ). info_of n f ∷ []) here
heads_from_push offset (g ∷ fs) f =
    let next = offset + length (frame_bytes g) in
    let size : length (stream (g ∷ fs)) ≡ length (frame_bytes g) + length (stream fs) = length-append (frame_bytes g) (stream fs) in
    let same : next + length (stream fs) ≡ offset + length (stream (g ∷ fs)) = omega (arith, size) in
    ap (λ (heads : List HeadInfo). info_of offset g ∷ heads) (heads_from_push next fs f ∙ ap (λ (n : ℕ). heads_from next fs ++ info_of n f ∷ []) same)

pub heads_push : (fs : List Frame) (f : Frame) → heads_of (fs ++ f ∷ []) ≡ heads_of fs ++ info_of (length (stream fs)) f ∷ []
heads_push fs f = let same : 0 + length (stream fs) ≡ length (stream fs) = omega arith in heads_from_push 0 fs f ∙ ap (λ (n : ℕ). heads_of fs ++ info_of n f ∷ []) same

-- ---- the frame of a head

pub form_is_encoded : (f : LenForm) (len : ℕ) → form_at f len ≡ encoded_form f len
unfolding form_at
form_is_encoded (len_form.Short n) len = refl
form_is_encoded len_form.Two len = refl
form_is_encoded len_form.Eight len = refl

-- A head alone is valid so far.
module _ (role : Role) (limits : Limits) (group : List Frame) (head : Head) (bytes : List ℕ) (h : IsHead role limits group head bytes) (has_no_evidence : HasNoEvidence role limits group bytes) where
  abbrev opening : ℕ
  opening = first_byte head.first.fin head.first.op

  pub head_alone : HeadHasNoEvidence role limits.lengths opening h.second h.lengths
  head_alone = record {
    by_first = λ reason row. has_no_evidence.none (opening ∷ []) (h.second ∷ (h.lengths ++ key_bytes head.key)) reason h.whole (ByFirst opening refl (first_row limits group reason opening row));
    by_second = λ reason row. has_no_evidence.none (opening ∷ h.second ∷ []) (h.lengths ++ key_bytes head.key) reason h.whole (BySecond opening h.second refl row);
    by_length = λ reason row.
        has_no_evidence.none (opening ∷ h.second ∷ h.lengths) (key_bytes head.key) reason h.whole
        (ByLength opening h.second h.lengths refl (h.counted ∙ ap length_count h.encoded) (encoding_row limits group reason opening h.second h.lengths row));
  }

  -- with as many bytes after it as it announces, it is a frame's head
  pub head_layout : (wire : List ℕ) → IsBytes wire → length wire ≡ head.len → HasLayout (bytes ++ wire)
  head_layout wire in_wire all =
      layout_of opening h.second h.lengths (key_bytes head.key) wire (bytes ++ wire)
      (ap (λ (bs : List ℕ). bs ++ wire) h.whole ∙ ap (λ (bs : List ℕ). opening ∷ h.second ∷ bs) (append_assoc h.lengths (key_bytes head.key) wire))
      (IsBytes-append bytes wire h.in_bytes in_wire)
      (h.counted ∙ ap length_count h.encoded) (key_bytes_count head.key h.of_four ∙ ap (λ (b : Bool). cond b 4 0) (sym h.masked))
      (all ∙ h.reported ∙ ap (λ (f : LenForm). encoded_length f h.lengths) h.encoded)

-- What a frame shares with the head that it begins with.
pub record IsFrameOf (head : Head) (bytes wire : List ℕ) (f : Frame) : Type 0 where
  pub encodable : IsEncodable f
  pub bytes_are : frame_bytes f ≡ bytes ++ wire
  pub fin_is : f.fin ≡ head.first.fin
  pub op_is : f.op ≡ head.first.op
  pub key_is : f.key ≡ head.key
  pub form_is : f.form ≡ encoded_form head.encoded head.len
  pub length_is : length f.payload ≡ head.len

pub frame_of_head : (role : Role) (limits : Limits) (group : List Frame) (head : Head) (bytes wire : List ℕ) (h : IsHead role limits group head bytes) → HasNoEvidence role limits group bytes
    → IsBytes wire → length wire ≡ head.len → (f : Frame) × IsFrameOf head bytes wire f
unfolding head_layout layout_of frame_at
frame_of_head role limits group head bytes wire h has_no_evidence in_wire all =
    let layout = head_layout role limits group head bytes h has_no_evidence wire in_wire all in
    let encoded = frame_of_layout role limits.lengths (bytes ++ wire) layout (head_alone role limits group head bytes h has_no_evidence) in
    let there = frame_at (first_byte head.first.fin head.first.op) h.second (key_bytes head.key) wire in
    let fields = first_byte_fields head.first.fin head.first.op in (
      there,
      record {
        encodable = encoded.owed.encodable;
        bytes_are = encoded.bytes_are;
        fin_is = encoded.fin_is ∙ fields.fin_is;
        op_is = sym (op_at-opcode there.op) ∙ ap op_at (encoded.opcode_is ∙ fields.opcode_is) ∙ op_at-opcode head.first.op;
        key_is = ap (λ (mask : Bool). key_at mask (key_bytes head.key)) h.masked ∙ key_at-key_bytes head.key;
        form_is = ap (λ (f : LenForm). form_at f (length wire)) (sym h.encoded) ∙ ap (λ (n : ℕ). form_at head.encoded n) all ∙ form_is_encoded head.encoded head.len;
        length_is = encoded.length_is ∙ ap (λ (f : LenForm). encoded_length f h.lengths) (sym h.encoded) ∙ sym h.reported;
      },
    )

-- lists that end in lists of one length
fronts_same : (xs ys us vs : List ℕ) → length us ≡ length vs → xs ++ us ≡ ys ++ vs → xs ≡ ys
fronts_same xs ys us vs ends same =
    let sizes : length xs + length us ≡ length ys + length vs = sym (length-append xs us) ∙ ap (λ (bs : List ℕ). length bs) same ∙ length-append ys vs in
    (fronts_agree xs ys us vs (omega (arith, ends, sizes)) same).0

-- a head that is valid so far is encoded as its frame's
pub head_encoded : (role : Role) (limits : Limits) (fs : List Frame) (head : Head) (bytes : List ℕ) (h : IsHead role limits (unfinished fs) head bytes) → HasNoEvidence role limits (unfinished fs) bytes
    → bytes ≡ head_bytes head.first.fin head.first.op head.key (encoded_form head.encoded head.len) head.len
head_encoded role limits fs head bytes h has_no_evidence =
    let wire = zeros head.len in
    let found = frame_of_head role limits (unfinished fs) head bytes wire h has_no_evidence (zeros_bytes head.len) (length-zeros head.len) in
    let f = found.0 in
    let is = found.1 in
    let size : length (wire_payload f.key f.payload) ≡ length wire = length-wire_payload f.key f.payload ∙ is.length_is ∙ sym (length-zeros head.len) in
    let own : head_bytes f.fin f.op f.key f.form (length f.payload) ≡ bytes =
    fronts_same (head_bytes f.fin f.op f.key f.form (length f.payload)) bytes (wire_payload f.key f.payload) wire size is.bytes_are in
    let same : head_bytes f.fin f.op f.key f.form (length f.payload) ≡ head_bytes head.first.fin head.first.op head.key (encoded_form head.encoded head.len) head.len =
    λ i. head_bytes (is.fin_is i) (is.op_is i) (is.key_is i) (is.form_is i) (is.length_is i) in
    sym own ∙ same

-- a whole head that is valid so far is reported with the code's values, and these bytes follow it
pub head_begins_at : (role : Role) (limits : Limits) (fs : List Frame) (head : Head) (bytes following rest : List ℕ) (h : IsHead role limits (unfinished fs) head bytes) → HasNoEvidence role limits (unfinished fs) bytes
    → rest ≡ bytes ++ following → (b : BeginsWithHead role limits fs rest (info_at (length (stream fs)) head)) × (b.following ≡ following)
head_begins_at role limits fs head bytes following rest h has_no_evidence whole =
    let wire = zeros head.len in
    let found = frame_of_head role limits (unfinished fs) head bytes wire h has_no_evidence (zeros_bytes head.len) (length-zeros head.len) in
    let f = found.0 in
    let is = found.1 in (
      record {
        head = bytes;
        following = following;
        whole = whole;
        offset = refl;
        encoded = head_encoded role limits fs head bytes h has_no_evidence;
        key = h.of_four;
        form = subst (λ (n : ℕ). FormFits (encoded_form head.encoded head.len) n) is.length_is (subst (λ (g : Form). FormFits g (length f.payload)) is.form_is is.encodable.form);
        size = let below = is.encodable.size in omega (arith, is.length_is);
        has_no_evidence = has_no_evidence;
      },
      refl,
    )

pub head_begins : (role : Role) (limits : Limits) (fs : List Frame) (head : Head) (bytes following rest : List ℕ) (h : IsHead role limits (unfinished fs) head bytes) → HasNoEvidence role limits (unfinished fs) bytes
    → rest ≡ bytes ++ following → BeginsWithHead role limits fs rest (info_at (length (stream fs)) head)
head_begins role limits fs head bytes following rest h has_no_evidence whole = (head_begins_at role limits fs head bytes following rest h has_no_evidence whole).0

-- a prefix of bytes that are valid so far is valid so far
pub front_without_evidence : (role : Role) (limits : Limits) (group : List Frame) (bytes following : List ℕ) → HasNoEvidence role limits group (bytes ++ following) → HasNoEvidence role limits group bytes
front_without_evidence role limits group bytes following has_no_evidence = record {
  none = λ seen later reason whole evidence.
      has_no_evidence.none seen (later ++ following) reason (ap (λ (bs : List ℕ). bs ++ following) whole ∙ append_assoc seen later following) evidence;
}

-- ---- no whole head

two_more : (a b : ℕ) (xs : List ℕ) → length (a ∷ b ∷ xs) ≡ 2 + length xs
two_more a b xs = omega arith

-- the size of a head, by its second byte
abbrev pub head_size : ℕ → ℕ
head_size second = 2 + length_count (len_form_at second) + key_count second

-- a whole head has this size
pub begins_size : (role : Role) (limits : Limits) (fs : List Frame) (rest : List ℕ) (info : HeadInfo) (b : BeginsWithHead role limits fs rest info) (first second : ℕ) (more : List ℕ)
    → rest ≡ first ∷ second ∷ more → length b.head ≡ head_size second
begins_size role limits fs rest info b first second more is =
    let field = len_form_of info.form info.len in
    let spells = spells-len_form_of info.form info.len b.form b.size in
    let of_second = second_byte_fields info.key field info.len spells in
    let of_length = length_bytes_fields field info.len spells in
    let lens = length_bytes field info.len in
    let both : first_byte info.fin info.op ∷ second_byte info.key field ∷ ((lens ++ key_bytes info.key) ++ b.following) ≡ first ∷ second ∷ more =
    ap (λ (bs : List ℕ). bs ++ b.following) (sym b.encoded) ∙ sym b.whole ∙ is in
    let same : second_byte info.key field ≡ second = cc in
    let field_is : field ≡ len_form_at second = sym of_second.field_is ∙ ap len_form_at same in
    let mask_is : is_some info.key ≡ mask_bit second = sym of_second.mask_is ∙ ap mask_bit same in
    let count : length lens ≡ length_count (len_form_at second) = of_length.count ∙ ap length_count field_is in
    let keys : length (key_bytes info.key) ≡ key_count second = key_bytes_count info.key b.key ∙ ap (λ (mask : Bool). cond mask 4 0) mask_is in
    let size : length b.head ≡ 2 + length (lens ++ key_bytes info.key) = ap (λ (bs : List ℕ). length bs) b.encoded ∙ two_more (first_byte info.fin info.op) (second_byte info.key field) (lens ++ key_bytes info.key) in
    omega (arith, size, length-append lens (key_bytes info.key), count, keys)

-- bytes that are fewer than the second one requires begin with no whole head
short_of_head : (role : Role) (limits : Limits) (fs : List Frame) (rest : List ℕ) (first second : ℕ) (more : List ℕ) → rest ≡ first ∷ second ∷ more → length rest < head_size second
    → (info : HeadInfo) → BeginsWithHead role limits fs rest info → ⊥
short_of_head role limits fs rest first second more is short info b =
    let all : length rest ≡ length b.head + length b.following = ap (λ (bs : List ℕ). length bs) b.whole ∙ length-append b.head b.following in
    omega (arith, all, begins_size role limits fs rest info b first second more is, short)

pub nothing_begun : (role : Role) (limits : Limits) (fs : List Frame) (rest : List ℕ) → length rest < 2 → (info : HeadInfo) → BeginsWithHead role limits fs rest info → ⊥
nothing_begun role limits fs rest few info b = omega (arith, few, begins_two role limits fs rest info b)

-- fewer bytes than a head are no whole one
pub short_begins_none : (role : Role) (limits : Limits) (fs : List Frame) (rest : List ℕ) → IsShort rest → (info : HeadInfo) → BeginsWithHead role limits fs rest info → ⊥
short_begins_none role limits fs [] short info b = nothing_begun role limits fs [] (omega arith) info b
short_begins_none role limits fs (first ∷ []) short info b = nothing_begun role limits fs (first ∷ []) (omega arith) info b
short_begins_none role limits fs (first ∷ second ∷ more) short info b = short_of_head role limits fs (first ∷ second ∷ more) first second more refl (omega (arith, two_more first second more, short)) info b

-- a whole head that is all of the bytes isn't refused
all_of_head : (role : Role) (limits : Limits) (fs : List Frame) (rest : List ℕ) (reason : Reason) (info : HeadInfo) (b : BeginsWithHead role limits fs rest info) → b.following ≡ []
    → Evidence role limits (unfinished fs) reason rest → ⊥
all_of_head role limits fs rest reason info b none is_evident =
    let same : rest ≡ b.head = b.whole ∙ ap (λ (bs : List ℕ). b.head ++ bs) none ∙ append-nil b.head in
    b.has_no_evidence.none b.head [] reason (sym (append-nil b.head)) (subst (λ (bs : List ℕ). Evidence role limits (unfinished fs) reason bs) same is_evident)

-- if no whole head came before a byte, and that byte is the offending one, no whole head is reported
pub refused_begins_none : (role : Role) (limits : Limits) (fs : List Frame) (front all : List ℕ) (byte : ℕ) (reason : Reason) → all ≡ front ++ byte ∷ []
    → ((info : HeadInfo) → BeginsWithHead role limits fs front info → ⊥) → Evidence role limits (unfinished fs) reason all → (info : HeadInfo) → BeginsWithHead role limits fs all info → ⊥
refused_begins_none role limits fs front all byte reason is none is_evident info b =
    elim (two_fronts front b.head (byte ∷ []) b.following (sym is ∙ b.whole)) [
      | inl p ↦ of p.0 p.1 p.2
      | inr p ↦ none info (before p.0 p.1)
    ]
  where
    before : (left : List ℕ) → front ≡ b.head ++ left → BeginsWithHead role limits fs front info
    before left whole = record { head = b.head; following = left; whole = whole; offset = b.offset; encoded = b.encoded; key = b.key; form = b.form; size = b.size; has_no_evidence = b.has_no_evidence }

    of : (more : List ℕ) → b.head ≡ front ++ more → byte ∷ [] ≡ more ++ b.following → ⊥
    of [] head_is last = none info (before [] (sym (append-nil front) ∙ sym head_is ∙ sym (append-nil b.head)))
    of (x ∷ xs) head_is last =
        let nothing : xs ++ b.following ≡ [] = cc in
        let size : length xs + length b.following ≡ 0 = sym (length-append xs b.following) ∙ ap (λ (bs : List ℕ). length bs) nothing in
        all_of_head role limits fs all reason info b (no_items b.following (omega (arith, size))) is_evident

-- a whole head whose last byte is the offending one isn't reported
pub cut_begins_none : (role : Role) (limits : Limits) (fs : List Frame) (head : Head) (bytes : List ℕ) (reason : Reason) (h : IsHead role limits (unfinished fs) head bytes)
    → Evidence role limits (unfinished fs) reason bytes → (info : HeadInfo) → BeginsWithHead role limits fs bytes info → ⊥
cut_begins_none role limits fs head bytes reason h is_evident info b =
    let second = h.second in
    let tail = h.lengths ++ key_bytes head.key in
    let size : length b.head ≡ head_size second = begins_size role limits fs bytes info b (first_byte head.first.fin head.first.op) second tail h.whole in
    let own : length bytes ≡ 2 + length tail = ap (λ (bs : List ℕ). length bs) h.whole ∙ two_more (first_byte head.first.fin head.first.op) second tail in
    let count : length h.lengths ≡ length_count (len_form_at second) = h.counted ∙ ap length_count h.encoded in
    let keys : length (key_bytes head.key) ≡ key_count second = key_bytes_count head.key h.of_four ∙ ap (λ (mask : Bool). cond mask 4 0) (sym h.masked) in
    let all : length bytes ≡ length b.head + length b.following = ap (λ (bs : List ℕ). length bs) b.whole ∙ length-append b.head b.following in
    all_of_head role limits fs bytes reason info b (no_items b.following (omega (arith, size, own, count, keys, all, length-append h.lengths (key_bytes head.key)))) is_evident

-- what is reported of a frame that has begun stays so where its bytes are refused
pub begun_stays : (role : Role) (limits : Limits) (fs : List Frame) (rest later : List ℕ) (reason : Reason) (begun : List HeadInfo) → Evidence role limits (unfinished fs) reason rest
    → IsBegun role limits fs rest begun → IsBegun role limits fs (rest ++ later) begun
begun_stays role limits fs rest later reason begun is_evident (inl closed) = inl closed
begun_stays role limits fs rest later reason begun is_evident (inr (inr some)) =
    inr (inr (some.0, (some.1.0, some.1.1, begins_longer role limits fs rest later some.1.0 some.1.2)))
begun_stays role limits fs rest later reason begun is_evident (inr (inl none)) = inr (inl (none.0, none.1, no_head))
  where
    no_head : (info : HeadInfo) → BeginsWithHead role limits fs (rest ++ later) info → ⊥
    no_head info b =
        elim (two_fronts rest b.head later b.following b.whole) [
          | inl p ↦ b.has_no_evidence.none rest p.0 reason p.1 is_evident
          | inr p ↦ none.2 info (record { head = b.head; following = p.0; whole = p.1; offset = b.offset; encoded = b.encoded; key = b.key; form = b.form; size = b.size; has_no_evidence = b.has_no_evidence })
        ]

-- A lawful frame's bytes begin with its head.
unfoldable pub frame_begins : (role : Role) (limits : Limits) (fs : List Frame) (f : Frame) (gs : List Frame) (following : List ℕ) → IsLawful role limits (fs ++ f ∷ gs) → BeginsWithHead role limits fs (frame_bytes f ++ following) (info_of (length (stream fs)) f)
frame_begins role limits fs f gs following lawful =
    let encodable = (law_at_split role limits fs f gs lawful).frame.encoded.encodable in
    let head = head_bytes f.fin f.op f.key f.form (length f.payload) in
    let wire = wire_payload f.key f.payload in
    record {
      head = head;
      following = wire ++ following;
      whole = append_assoc head wire following;
      offset = refl;
      encoded = refl;
      key = encodable.key;
      form = encodable.form;
      size = encodable.size;
      has_no_evidence = record {
        none = λ seen later reason whole evidence.
            lawful_frame_shows_nothing role limits fs f gs lawful seen (later ++ (wire ++ following)) following reason
            (sym (append_assoc seen later (wire ++ following)) ∙ ap (λ (bs : List ℕ). bs ++ (wire ++ following)) (sym whole) ∙ sym (append_assoc head wire following)) evidence;
      };
    }
