-- Reading a frame's bytes gives the frame.
use Rattle.std.proofs.Common.{◌≡◌, ℕ, ◌+◌, ◌%◌, ◌<◌, ◌≤◌, ◌^◌, Bool, true, false, Option, Some, None, List, [], ◌∷◌, ◌++◌, length, refl, ap, sym, ◌∙◌, arith, zero-add, inl, inr, nat_lt, if◌then◌else◌}
use Rattle.std.specs.Prelude.{is_some, ◌==◌, IfSome}
use Rattle.std.proofs.lemmas.List.{append_assoc}
use Rattle.std.proofs.lemmas.Nat.{from_be_bytes-to_be_bytes_2, from_be_bytes-to_be_bytes_8}
use Rattle.std.proofs.lemmas.Bool.{lt-ltb, le-ltb, lt-leb, le-leb, cases_lt}
use Rattle.wsn_wire.specs.declared.opcode.Op.{Op}
use Rattle.wsn_wire.specs.declared.opcode.Op.TheVariants.{Continue, Text, Binary, Close, Ping, Pong}
use Rattle.wsn_wire.specs.declared.length_encoding.Form.{Form}
use Rattle.wsn_wire.specs.declared.length_encoding.Form.TheVariants as form
use Rattle.wsn_wire.specs.declared.length_encoding.LenForm.{LenForm}
use Rattle.wsn_wire.specs.declared.length_encoding.LenForm.TheVariants as len_form
use Rattle.wsn_wire.specs.Frame.{Frame, opcode, first_byte, second_byte, length_bytes, len_form_of, key_bytes, wire_payload, frame_bytes, IsBytes, IsKey, FormFits, IsEncodable}
use Rattle.wsn_wire.specs.ReceivedHead.{fin_bit, reserved_bits, opcode_field, mask_bit, len_form_at, length_count, encoded_length, key_count, HasLayout}
use Rattle.wsn_wire.proofs.MaskLemmas.{masked-masked, length-masked, masked-bytes}

-- ---- the first byte

-- The fields of the first byte: no reserved bit is set.
pub record IsFirstByteOf (fin : Bool) (op : Op) (byte : ℕ) : Type 0 where
  pub fin_is : fin_bit byte ≡ fin
  pub unreserved : reserved_bits byte ≡ 0
  pub opcode_is : opcode_field byte ≡ opcode op
  pub below : byte < 256

pub first_byte_fields : (fin : Bool) (op : Op) → IsFirstByteOf fin op (first_byte fin op)
first_byte_fields false Continue = record { fin_is = refl; unreserved = refl; opcode_is = refl; below = omega arith }
first_byte_fields false Text = record { fin_is = refl; unreserved = refl; opcode_is = refl; below = omega arith }
first_byte_fields false Binary = record { fin_is = refl; unreserved = refl; opcode_is = refl; below = omega arith }
first_byte_fields false Close = record { fin_is = refl; unreserved = refl; opcode_is = refl; below = omega arith }
first_byte_fields false Ping = record { fin_is = refl; unreserved = refl; opcode_is = refl; below = omega arith }
first_byte_fields false Pong = record { fin_is = refl; unreserved = refl; opcode_is = refl; below = omega arith }
first_byte_fields true Continue = record { fin_is = refl; unreserved = refl; opcode_is = refl; below = omega arith }
first_byte_fields true Text = record { fin_is = refl; unreserved = refl; opcode_is = refl; below = omega arith }
first_byte_fields true Binary = record { fin_is = refl; unreserved = refl; opcode_is = refl; below = omega arith }
first_byte_fields true Close = record { fin_is = refl; unreserved = refl; opcode_is = refl; below = omega arith }
first_byte_fields true Ping = record { fin_is = refl; unreserved = refl; opcode_is = refl; below = omega arith }
first_byte_fields true Pong = record { fin_is = refl; unreserved = refl; opcode_is = refl; below = omega arith }

-- The opcode of a number that is not reserved.
unfoldable pub op_at : ℕ → Op
op_at n = if n == 0 then Continue else (if n == 1 then Text else (if n == 2 then Binary else (if n == 8 then Close else (if n == 9 then Ping else Pong))))

pub op_at-opcode : (op : Op) → op_at (opcode op) ≡ op
unfolding op_at
op_at-opcode Continue = refl
op_at-opcode Text = refl
op_at-opcode Binary = refl
op_at-opcode Close = refl
op_at-opcode Ping = refl
op_at-opcode Pong = refl

-- ---- the second byte and the length bytes

-- The length form can encode the length.
abbrev pub Spells : LenForm → ℕ → Type 0
Spells (len_form.Short n) len = (n ≡ len) × (n < 126)
Spells len_form.Two len = len < 65536
Spells len_form.Eight len = len < 2 ^ 63

-- The fields of the second byte.
pub record IsSecondByteOf (key : Option (List ℕ)) (f : LenForm) (byte : ℕ) : Type 0 where
  pub mask_is : mask_bit byte ≡ is_some key
  pub field_is : len_form_at byte ≡ f
  pub below : byte < 256

pub second_byte_fields : (key : Option (List ℕ)) (f : LenForm) (len : ℕ) → Spells f len → IsSecondByteOf key f (second_byte key f)
second_byte_fields None (len_form.Short n) len spells =
    let below : n < 128 = omega arith in
    let low : n % 128 ≡ n = omega arith in
    record {
      mask_is = lt-leb 128 (0 + n) (omega arith);
      field_is = rw (zero-add, low, lt-ltb n 126 spells.1) refl;
      below = omega arith;
    }
second_byte_fields (Some key) (len_form.Short n) len spells =
    let low : (128 + n) % 128 ≡ n = omega arith in
    record {
      mask_is = le-leb 128 (128 + n) (omega arith);
      field_is = rw (low, lt-ltb n 126 spells.1) refl;
      below = omega arith;
    }
second_byte_fields None len_form.Two len spells = record { mask_is = refl; field_is = refl; below = omega arith }
second_byte_fields (Some key) len_form.Two len spells = record { mask_is = refl; field_is = refl; below = omega arith }
second_byte_fields None len_form.Eight len spells = record { mask_is = refl; field_is = refl; below = omega arith }
second_byte_fields (Some key) len_form.Eight len spells = record { mask_is = refl; field_is = refl; below = omega arith }

-- The length bytes have the number that the length field gives, and they encode the length.
pub record AreLengthBytesOf (f : LenForm) (len : ℕ) (bytes : List ℕ) : Type 0 where
  pub count : length bytes ≡ length_count f
  pub decoded : encoded_length f bytes ≡ len
  pub all : IsBytes bytes

pub length_bytes_fields : (f : LenForm) (len : ℕ) → Spells f len → AreLengthBytesOf f len (length_bytes f len)
length_bytes_fields (len_form.Short n) len spells = record { count = refl; decoded = spells.0; all = tt }
length_bytes_fields len_form.Two len spells = record { count = refl; decoded = from_be_bytes-to_be_bytes_2 len spells; all = (omega arith, (omega arith, tt)) }
length_bytes_fields len_form.Eight len spells = record {
  count = refl;
  decoded = from_be_bytes-to_be_bytes_8 len (omega arith);
  all = (omega arith, (omega arith, (omega arith, (omega arith, (omega arith, (omega arith, (omega arith, (omega arith, tt))))))));
}

-- The shortest form of each length.
pub short-len_form_of : (len : ℕ) → len < 126 → len_form_of form.Shortest len ≡ len_form.Short len
short-len_form_of len small = rw (lt-ltb len 126 small) refl

pub two-len_form_of : (len : ℕ) → 126 ≤ len → len < 65536 → len_form_of form.Shortest len ≡ len_form.Two
two-len_form_of len least below = rw (le-ltb len 126 least, lt-ltb len 65536 below) refl

pub eight-len_form_of : (len : ℕ) → 65536 ≤ len → len_form_of form.Shortest len ≡ len_form.Eight
eight-len_form_of len least = rw (le-ltb len 126 (omega arith), le-ltb len 65536 least) refl

pub spells-len_form_of : (f : Form) (len : ℕ) → FormFits f len → len < 2 ^ 63 → Spells (len_form_of f len) len
spells-len_form_of form.Shortest len fits below =
    elim (cases_lt len 126) [
      | inl small ↦ rw (short-len_form_of len small) (refl, small)
      | inr least ↦ elim (cases_lt len 65536) [
        | inl middle ↦ rw (two-len_form_of len least middle) middle
        | inr large ↦ rw (eight-len_form_of len large) below
      ]
    ]
spells-len_form_of form.Two len fits below = omega arith
spells-len_form_of form.Eight len fits below = below

-- The form in which a length form encodes a length.
unfoldable pub form_at : LenForm → ℕ → Form
form_at (len_form.Short n) len = form.Shortest
form_at len_form.Two len = if nat_lt len 126 then form.Two else form.Shortest
form_at len_form.Eight len = if nat_lt len 65536 then form.Eight else form.Shortest

pub form_at-len_form_of : (f : Form) (len : ℕ) → FormFits f len → form_at (len_form_of f len) len ≡ f
unfolding form_at
form_at-len_form_of form.Shortest len fits =
    elim (cases_lt len 126) [
      | inl small ↦ rw (short-len_form_of len small) refl
      | inr least ↦ elim (cases_lt len 65536) [
        | inl middle ↦ rw (two-len_form_of len least middle, le-ltb len 126 least) refl
        | inr large ↦ rw (eight-len_form_of len large, le-ltb len 65536 large) refl
      ]
    ]
form_at-len_form_of form.Two len fits = rw (lt-ltb len 126 (omega arith)) refl
form_at-len_form_of form.Eight len fits = rw (lt-ltb len 65536 (omega arith)) refl

-- ---- bytes

pub IsBytes-append : (xs ys : List ℕ) → IsBytes xs → IsBytes ys → IsBytes (xs ++ ys)
IsBytes-append [] ys left right = right
IsBytes-append (x ∷ xs) ys left right = (left.0, IsBytes-append xs ys left.1 right)

pub IsBytes-left : (xs ys : List ℕ) → IsBytes (xs ++ ys) → IsBytes xs
IsBytes-left [] ys all = tt
IsBytes-left (x ∷ xs) ys all = (all.0, IsBytes-left xs ys all.1)

pub IsBytes-right : (xs ys : List ℕ) → IsBytes (xs ++ ys) → IsBytes ys
IsBytes-right [] ys all = all
IsBytes-right (x ∷ xs) ys all = IsBytes-right xs ys all.1

-- Two equal lists with prefixes of equal length.
pub fronts_agree : (xs ys us vs : List ℕ) → length xs ≡ length ys → xs ++ us ≡ ys ++ vs → (xs ≡ ys) × (us ≡ vs)
fronts_agree [] [] us vs same e = (refl, e)
fronts_agree [] (y ∷ ys) us vs same e = absurd (omega (arith, same))
fronts_agree (x ∷ xs) [] us vs same e = absurd (omega (arith, same))
fronts_agree (x ∷ xs) (y ∷ ys) us vs same e =
    let head : x ≡ y = cc in
    let rest = fronts_agree xs ys us vs (omega arith) (let tails : xs ++ us ≡ ys ++ vs = cc in tails) in
    let lists : xs ≡ ys = rest.0 in
    (cc, rest.1)

-- ---- a key, and a payload under it

pub key_bytes_count : (key : Option (List ℕ)) → IfSome key IsKey → length (key_bytes key) ≡ (if is_some key then 4 else 0)
key_bytes_count None is_key = refl
key_bytes_count (Some key) is_key = is_key.0

pub key_bytes_all : (key : Option (List ℕ)) → IfSome key IsKey → IsBytes (key_bytes key)
key_bytes_all None is_key = tt
key_bytes_all (Some key) is_key = is_key.1

pub length-wire_payload : (key : Option (List ℕ)) (payload : List ℕ) → length (wire_payload key payload) ≡ length payload
length-wire_payload None payload = refl
length-wire_payload (Some key) payload = length-masked key 0 payload

pub wire_payload_bytes : (key : Option (List ℕ)) (payload : List ℕ) → IfSome key IsKey → IsBytes payload → IsBytes (wire_payload key payload)
wire_payload_bytes None payload is_key all = all
wire_payload_bytes (Some key) payload is_key all = masked-bytes key 0 payload is_key.1 all

pub wire_payload_twice : (key : Option (List ℕ)) (payload : List ℕ) → wire_payload key (wire_payload key payload) ≡ payload
wire_payload_twice None payload = refl
wire_payload_twice (Some key) payload = masked-masked key 0 payload

-- The key, if MASK is set: the bytes after the length.
unfoldable pub key_at : Bool → List ℕ → Option (List ℕ)
key_at mask bytes = if mask then Some bytes else None

pub key_at-key_bytes : (key : Option (List ℕ)) → key_at (is_some key) (key_bytes key) ≡ key
unfolding key_at
key_at-key_bytes None = refl
key_at-key_bytes (Some key) = refl

-- ---- a frame from a layout, and back

-- The frame of a layout's parts, if its opcode is not reserved.
unfoldable pub frame_at : ℕ → ℕ → List ℕ → List ℕ → Frame
frame_at first second key payload = record {
  fin = fin_bit first;
  op = op_at (opcode_field first);
  key = key_at (mask_bit second) key;
  form = form_at (len_form_at second) (length payload);
  payload = wire_payload (key_at (mask_bit second) key) payload;
}

-- The bytes of a frame have the layout.
unfoldable pub layout_of_frame : (f : Frame) → IsEncodable f → HasLayout (frame_bytes f)
layout_of_frame f encodable =
    let spells = spells-len_form_of f.form (length f.payload) encodable.form encodable.size in
    let of_first = first_byte_fields f.fin f.op in
    let of_second = second_byte_fields f.key (len_form_of f.form (length f.payload)) (length f.payload) spells in
    let of_length = length_bytes_fields (len_form_of f.form (length f.payload)) (length f.payload) spells in
    let len_bytes = length_bytes (len_form_of f.form (length f.payload)) (length f.payload) in
    let of_key = key_bytes_all f.key encodable.key in
    let of_payload = wire_payload_bytes f.key f.payload encodable.key encodable.payload in
    record {
      first = first_byte f.fin f.op;
      second = second_byte f.key (len_form_of f.form (length f.payload));
      len = length_bytes (len_form_of f.form (length f.payload)) (length f.payload);
      key = key_bytes f.key;
      payload = wire_payload f.key f.payload;
      whole =
          ap (λ bytes. first_byte f.fin f.op ∷ second_byte f.key (len_form_of f.form (length f.payload)) ∷ bytes)
          (append_assoc (length_bytes (len_form_of f.form (length f.payload)) (length f.payload)) (key_bytes f.key) (wire_payload f.key f.payload));
      in_bytes = (of_first.below, (of_second.below, IsBytes-append _ _ (IsBytes-append _ _ of_length.all of_key) of_payload));
      len_count = of_length.count ∙ ap length_count (sym of_second.field_is);
      key_counted = key_bytes_count f.key encodable.key ∙ ap (λ mask. if mask then 4 else 0) (sym of_second.mask_is);
      payload_count = length-wire_payload f.key f.payload ∙ (sym of_length.decoded ∙ ap (λ g. encoded_length g len_bytes) (sym of_second.field_is));
    }

pub frames_equal : (f g : Frame) → f.fin ≡ g.fin → f.op ≡ g.op → f.key ≡ g.key → f.form ≡ g.form → f.payload ≡ g.payload → f ≡ g
frames_equal f g fin op key form payload = λ i. record { fin = fin i; op = op i; key = key i; form = form i; payload = payload i }

-- Reading a frame's bytes gives the frame.
pub frame_at-frame_bytes : (f : Frame) → IsEncodable f →
    frame_at (first_byte f.fin f.op) (second_byte f.key (len_form_of f.form (length f.payload))) (key_bytes f.key) (wire_payload f.key f.payload) ≡ f
unfolding frame_at
frame_at-frame_bytes f encodable =
    let spells = spells-len_form_of f.form (length f.payload) encodable.form encodable.size in
    let of_first = first_byte_fields f.fin f.op in
    let of_second = second_byte_fields f.key (len_form_of f.form (length f.payload)) (length f.payload) spells in
    let wire = wire_payload f.key f.payload in
    let key_is = ap (λ mask. key_at mask (key_bytes f.key)) of_second.mask_is ∙ key_at-key_bytes f.key in
    frames_equal _ _
    of_first.fin_is
    (ap op_at of_first.opcode_is ∙ op_at-opcode f.op)
    key_is
    (ap (λ g. form_at g (length wire)) of_second.field_is ∙ (ap (λ n. form_at (len_form_of f.form (length f.payload)) n) (length-wire_payload f.key f.payload) ∙ form_at-len_form_of f.form (length f.payload) encodable.form))
    (ap (λ key. wire_payload key wire) key_is ∙ wire_payload_twice f.key f.payload)

-- If two complete layouts with bytes after them are the same bytes, their parts are equal.
pub record SameLayout {xs ys : List ℕ} (a : HasLayout xs) (b : HasLayout ys) : Type 0 where
  pub first : a.first ≡ b.first
  pub second : a.second ≡ b.second
  pub len : a.len ≡ b.len
  pub key : a.key ≡ b.key
  pub payload : a.payload ≡ b.payload

-- A layout with more bytes after it, part by part.
layout_then : (xs us : List ℕ) (a : HasLayout xs) → xs ++ us ≡ a.first ∷ a.second ∷ (a.len ++ (a.key ++ (a.payload ++ us)))
layout_then xs us a =
    ap (λ bytes. bytes ++ us) a.whole
    ∙ ap (λ bytes. a.first ∷ a.second ∷ bytes) (append_assoc a.len (a.key ++ a.payload) us ∙ ap (λ bytes. a.len ++ bytes) (append_assoc a.key a.payload us))

pub layouts_agree : (xs ys us vs : List ℕ) (a : HasLayout xs) (b : HasLayout ys) → xs ++ us ≡ ys ++ vs → SameLayout a b × (us ≡ vs)
layouts_agree xs ys us vs a b same =
    let after_a = a.len ++ (a.key ++ (a.payload ++ us)) in
    let after_b = b.len ++ (b.key ++ (b.payload ++ vs)) in
    let parts : a.first ∷ a.second ∷ after_a ≡ b.first ∷ b.second ∷ after_b = sym (layout_then xs us a) ∙ (same ∙ layout_then ys vs b) in
    let first : a.first ≡ b.first = cc in
    let second : a.second ≡ b.second = cc in
    let following : after_a ≡ after_b = cc in
    let lens = fronts_agree a.len b.len (a.key ++ (a.payload ++ us)) (b.key ++ (b.payload ++ vs)) (a.len_count ∙ (ap (λ s. length_count (len_form_at s)) second ∙ sym b.len_count)) following in
    let keys = fronts_agree a.key b.key (a.payload ++ us) (b.payload ++ vs) (a.key_counted ∙ (ap key_count second ∙ sym b.key_counted)) lens.1 in
    let decoded : encoded_length (len_form_at a.second) a.len ≡ encoded_length (len_form_at b.second) b.len =
    ap (λ s. encoded_length (len_form_at s) a.len) second ∙ ap (λ bytes. encoded_length (len_form_at b.second) bytes) lens.0 in
    let payloads = fronts_agree a.payload b.payload us vs (a.payload_count ∙ (decoded ∙ sym b.payload_count)) keys.1 in
    (record { first = first; second = second; len = lens.0; key = keys.0; payload = payloads.0 }, payloads.1)

-- The bytes of a frame, with any bytes after them, determine the frame.
pub frame_bytes_determine : (f g : Frame) (xs ys : List ℕ) → IsEncodable f → IsEncodable g → frame_bytes f ++ xs ≡ frame_bytes g ++ ys → (f ≡ g) × (xs ≡ ys)
unfolding layout_of_frame
frame_bytes_determine f g xs ys of_f of_g same =
    let agree = layouts_agree (frame_bytes f) (frame_bytes g) xs ys (layout_of_frame f of_f) (layout_of_frame g of_g) same in
    let parts = agree.0 in
    let reading : frame_at (layout_of_frame f of_f).first (layout_of_frame f of_f).second (layout_of_frame f of_f).key (layout_of_frame f of_f).payload
    ≡ frame_at (layout_of_frame g of_g).first (layout_of_frame g of_g).second (layout_of_frame g of_g).key (layout_of_frame g of_g).payload =
    λ i. frame_at (parts.first i) (parts.second i) (parts.key i) (parts.payload i) in
    (sym (frame_at-frame_bytes f of_f) ∙ (reading ∙ frame_at-frame_bytes g of_g), agree.1)
