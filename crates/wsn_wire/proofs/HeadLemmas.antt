-- The frame of a complete layout whose head is evidence for no refusal; and no frame's head is evidence for one.
use Rattle.std.proofs.Common.{◌≡◌, ℕ, ◌%◌, ◌<◌, ◌≤◌, ◌^◌, Bool, true, false, Option, List, ◌∷◌, ◌++◌, length, refl, ap, sym, ◌∙◌, arith, inl, inr, if◌then◌else◌, subst}
use Rattle.std.specs.Prelude.{is_some, ◌↔◌, IfSome}
use Rattle.std.specs.Int.{from_be_bytes, w16, w64}
use Rattle.std.proofs.lemmas.Bool.{lt-ltb, le-ltb, lt-leb, le-leb, leb-true, leb-false, cases_lt, cases_eq, eq-eqb, ne_eqb, false≢true}
use Rattle.std.proofs.lemmas.List.{append_assoc, nil_from_length}
use Rattle.std.proofs.lemmas.Nat.{be_bytes_2, be_bytes_8}
use Rattle.wsn_wire.specs.declared.opcode.Op.{Op}
use Rattle.wsn_wire.specs.declared.opcode.Op.TheVariants.{Continue, Text, Binary, Close, Ping, Pong}
use Rattle.wsn_wire.specs.declared.endpoint.Role.{Role}
use Rattle.wsn_wire.specs.declared.endpoint.Role.TheVariants.{Client, Server}
use Rattle.wsn_wire.specs.declared.length_encoding.Form.TheVariants as form
use Rattle.wsn_wire.specs.declared.length_encoding.Lengths.{Lengths}
use Rattle.wsn_wire.specs.declared.length_encoding.LenForm.{LenForm}
use Rattle.wsn_wire.specs.declared.length_encoding.LenForm.TheVariants as len_form
use Rattle.wsn_wire.specs.declared.refusal.Reason.{Reason}
use Rattle.wsn_wire.specs.declared.refusal.Reason.TheVariants.{ReservedBits, ReservedOpcode, ControlNotFinal, MaskMissing, MaskPresent, ControlTooLong, CloseOneByte, LengthTopBit, LengthNotMinimal}
use Rattle.wsn_wire.specs.Frame.{Frame, opcode, is_control, first_byte, second_byte, length_field, length_bytes, len_form_of, key_bytes, wire_payload, frame_bytes, masked, IsBytes, IsKey, FormFits}
use Rattle.wsn_wire.specs.ReceivedHead.{fin_bit, reserved_bits, opcode_field, mask_bit, len_form_at, length_count, encoded_length, HasLayout}
use Rattle.wsn_wire.specs.EvidenceInHeads.{IsReserved, IsControlOpcode, EvidentInFirst, EvidentInSecond, EvidentInLength, HasTopBit, IsNotMinimal, IsLong, HeadHasNoEvidence, IsNoCloseOfOneByte}
use Rattle.wsn_wire.specs.HeadLaw.{IsEncodedFor}
use Rattle.wsn_wire.proofs.MaskLemmas.{at-All}
use Rattle.wsn_wire.proofs.FrameLemmas.{op_at, form_at, key_at, frame_at, Spells, short-len_form_of, two-len_form_of, eight-len_form_of, IsBytes-left, IsBytes-right, length-wire_payload, wire_payload_bytes, wire_payload_twice, IsFirstByteOf, first_byte_fields, second_byte_fields, length_bytes_fields, spells-len_form_of}

-- ---- bytes from their fields

ten_left : (n : ℕ) → n < 16 → (IsReserved n → ⊥) → (n ≡ 0 → ⊥) → (n ≡ 1 → ⊥) → (n ≡ 2 → ⊥) → (n ≡ 8 → ⊥) → (n ≡ 9 → ⊥) → n ≡ 10
ten_left n low known no0 no1 no2 no8 no9 =
    elim (cases_lt n 8) [
      | inl small ↦ absurd (known (inl (omega arith, omega arith)))
      | inr large ↦ elim (cases_lt n 11) [ inl less ↦ omega arith | inr more ↦ absurd (known (inr (omega arith, omega arith))) ]
    ]

pub opcode-op_at : (n : ℕ) → n < 16 → (IsReserved n → ⊥) → opcode (op_at n) ≡ n
unfolding op_at
opcode-op_at n low known =
    elim (cases_eq n 0) [
      | inl is ↦ rw is refl
      | inr no0 ↦
          elim (cases_eq n 1) [
            | inl is ↦ rw is refl
            | inr no1 ↦
                elim (cases_eq n 2) [
                  | inl is ↦ rw is refl
                  | inr no2 ↦
                      elim (cases_eq n 8) [
                        | inl is ↦ rw is refl
                        | inr no8 ↦
                            elim (cases_eq n 9) [
                              | inl is ↦ rw is refl
                              | inr no9 ↦
                                  let is_ten : n ≡ 10 = ten_left n low known no0 no1 no2 no8 no9 in rw is_ten refl
                            ]
                      ]
                ]
          ]
    ]

pub first_byte-fields : (first : ℕ) → first < 256 → reserved_bits first ≡ 0 → (IsReserved (opcode_field first) → ⊥) → first_byte (fin_bit first) (op_at (opcode_field first)) ≡ first
first_byte-fields first byte unreserved known =
    let low = opcode-op_at (opcode_field first) (omega arith) known in
    elim (cases_lt first 128) [ inl less ↦ rw (lt-leb 128 first less, low) (omega arith) | inr more ↦ rw (le-leb 128 first more, low) (omega arith) ]

pub length_field-len_form_at : (second : ℕ) → length_field (len_form_at second) ≡ second % 128
length_field-len_form_at second =
    elim (cases_lt (second % 128) 126) [
      | inl short ↦ rw (lt-ltb (second % 128) 126 short) refl
      | inr long ↦ elim (cases_eq (second % 128) 126) [
        | inl two ↦ rw (le-ltb (second % 128) 126 long, eq-eqb (second % 128) 126 two) (sym two)
        | inr other ↦ rw (le-ltb (second % 128) 126 long, ne_eqb (second % 128) 126 other) (omega arith)
      ]
    ]

pub second_byte-fields : (second : ℕ) (key : Option (List ℕ)) → second < 256 → is_some key ≡ mask_bit second → second_byte key (len_form_at second) ≡ second
second_byte-fields second key byte keyed =
    let field = length_field-len_form_at second in
    elim (cases_lt second 128) [
      | inl less ↦ rw (keyed, lt-leb 128 second less, field) (omega arith)
      | inr more ↦ rw (keyed, le-leb 128 second more, field) (omega arith)
    ]

-- ---- the length bytes, read and written again

-- A length in the second byte is at most 125.
abbrev pub IsField : LenForm → Type 0
IsField (len_form.Short n) = n < 126
IsField len_form.Two = Unit {0}
IsField len_form.Eight = Unit {0}

pub len_form_at_field : (second : ℕ) → IsField (len_form_at second)
len_form_at_field second =
    elim (cases_lt (second % 128) 126) [
      | inl short ↦ rw (lt-ltb (second % 128) 126 short) short
      | inr long ↦ elim (cases_eq (second % 128) 126) [
        | inl two ↦ rw (le-ltb (second % 128) 126 long, eq-eqb (second % 128) 126 two) tt
        | inr other ↦ rw (le-ltb (second % 128) 126 long, ne_eqb (second % 128) 126 other) tt
      ]
    ]

pub length_bytes-encoded_length : (f : LenForm) (bytes : List ℕ) → IsBytes bytes → length bytes ≡ length_count f → length_bytes f (encoded_length f bytes) ≡ bytes
length_bytes-encoded_length (len_form.Short n) bytes all count = sym (nil_from_length bytes count)
length_bytes-encoded_length len_form.Two bytes all count = be_bytes_2 bytes _ count (at-All (λ b. b < 256) (omega arith) bytes all) refl
length_bytes-encoded_length len_form.Eight bytes all count = be_bytes_8 bytes _ count (at-All (λ b. b < 256) (omega arith) bytes all) refl

two_bytes_below : (bytes : List ℕ) → IsBytes bytes → from_be_bytes w16 bytes < 65536
two_bytes_below bytes all =
    let high = at-All (λ b. b < 256) (omega arith) bytes all 0 in
    let low = at-All (λ b. b < 256) (omega arith) bytes all 1 in
    omega (arith, high, low)

pub spells-encoded_length : (f : LenForm) (bytes : List ℕ) → IsField f → IsBytes bytes → (HasTopBit f (encoded_length f bytes) → ⊥) → Spells f (encoded_length f bytes)
spells-encoded_length (len_form.Short n) bytes field all no_top = (refl, field)
spells-encoded_length len_form.Two bytes field all no_top = two_bytes_below bytes all
spells-encoded_length len_form.Eight bytes field all no_top =
    elim (cases_lt (from_be_bytes w64 bytes) (2 ^ 63)) [ inl below ↦ below | inr above ↦ absurd (no_top above) ]

-- The form of a length form encodes the length in it, and fits the length.
pub len_form_of-form_at : (f : LenForm) (len : ℕ) → Spells f len → (len_form_of (form_at f len) len ≡ f) × FormFits (form_at f len) len × (len < 2 ^ 63)
unfolding form_at
len_form_of-form_at (len_form.Short n) len spells = (rw (short-len_form_of len (omega arith), spells.0) refl, tt, omega arith)
len_form_of-form_at len_form.Two len spells =
    elim (cases_lt len 126) [
      | inl small ↦ rw (lt-ltb len 126 small) (refl, omega arith, omega arith)
      | inr large ↦ rw (le-ltb len 126 large) (two-len_form_of len large spells, tt, omega arith)
    ]
len_form_of-form_at len_form.Eight len spells =
    elim (cases_lt len 65536) [
      | inl small ↦ rw (lt-ltb len 65536 small) (refl, omega arith, spells)
      | inr large ↦ rw (le-ltb len 65536 large) (eight-len_form_of len large, tt, spells)
    ]

not_below : (n most : ℕ) → (n < most → ⊥) → most ≤ n
not_below n most not = elim (cases_lt n most) [ inl below ↦ absurd (not below) | inr above ↦ above ]

-- ---- the frame of a head that is evidence for no refusal

form_at_minimal : (f : LenForm) (len : ℕ) → (IsNotMinimal f len → ⊥) → form_at f len ≡ form.Shortest
unfolding form_at
form_at_minimal (len_form.Short n) len minimal = refl
form_at_minimal len_form.Two len minimal = rw (le-ltb len 126 (not_below len 126 minimal)) refl
form_at_minimal len_form.Eight len minimal = rw (le-ltb len 65536 (not_below len 65536 minimal)) refl

form_at_short : (f : LenForm) (len : ℕ) → Spells f len → (IsLong f → ⊥) → (form_at f len ≡ form.Shortest) × (len ≤ 125)
unfolding form_at
form_at_short (len_form.Short n) len spells short = (refl, omega arith)
form_at_short len_form.Two len spells short = absurd (short tt)
form_at_short len_form.Eight len spells short = absurd (short tt)

one_byte : (f : LenForm) (len : ℕ) → Spells f len → (IsLong f → ⊥) → len ≡ 1 → f ≡ len_form.Short 1
one_byte (len_form.Short n) len spells short one = ap (λ m. len_form.Short m) (spells.0 ∙ one)
one_byte len_form.Two len spells short one = absurd (short tt)
one_byte len_form.Eight len spells short one = absurd (short tt)

pub control_opcode : (op : Op) → is_control op ≡ true → IsControlOpcode (opcode op)
control_opcode Continue control = absurd (false≢true control)
control_opcode Text control = absurd (false≢true control)
control_opcode Binary control = absurd (false≢true control)
control_opcode Close control = (omega arith, omega arith)
control_opcode Ping control = (omega arith, omega arith)
control_opcode Pong control = (omega arith, omega arith)

-- The frame has a key exactly if MASK is set, and it is the layout's key bytes.
key_at_parts : (mask : Bool) (key : List ℕ) → length key ≡ (if mask then 4 else 0) → IsBytes key →
    (is_some (key_at mask key) ≡ mask) × (key_bytes (key_at mask key) ≡ key) × IfSome (key_at mask key) IsKey
unfolding key_at
key_at_parts true key count all = (refl, refl, (count, all))
key_at_parts false key count all = (refl, sym (nil_from_length key count), tt)

wire_payload-key_at : (mask : Bool) (key payload : List ℕ) → wire_payload (key_at mask key) payload ≡ (if mask then masked key 0 payload else payload)
unfolding key_at
wire_payload-key_at true key payload = refl
wire_payload-key_at false key payload = refl

-- FIN is set on a control frame.
final_control : (fin : Bool) → (fin ≡ false → ⊥) → fin ≡ true
final_control true set = refl
final_control false set = absurd (set refl)

masked_for : (role : Role) (mask : Bool) → ((role ≡ Client) × (mask ≡ false) → ⊥) → ((role ≡ Server) × (mask ≡ true) → ⊥) → (mask ≡ true) ↔ (role ≡ Client)
masked_for Client true present absent = ((λ _. refl), (λ _. refl))
masked_for Client false present absent = absurd (present (refl, refl))
masked_for Server true present absent = absurd (absent (refl, refl))
masked_for Server false present absent = ((λ is. absurd (false≢true is)), (λ is. cc))

-- The frame of a layout: it is encoded as its sender must, and its bytes are the layout's.
pub record IsSpelledBy (role : Role) (lengths : Lengths) {bytes : List ℕ} (l : HasLayout bytes) (f : Frame) : Type 0 where
  pub owed : IsEncodedFor role lengths f
  pub not_one : IsNoCloseOfOneByte f
  pub bytes_are : frame_bytes f ≡ bytes
  pub fin_is : f.fin ≡ fin_bit l.first
  pub opcode_is : opcode f.op ≡ opcode_field l.first
  pub key_is : is_some f.key ≡ mask_bit l.second
  pub key_bytes_are : key_bytes f.key ≡ l.key
  pub payload_is : f.payload ≡ (if mask_bit l.second then masked l.key 0 l.payload else l.payload)
  pub length_is : length f.payload ≡ encoded_length (len_form_at l.second) l.len

-- A complete layout whose head is evidence for no refusal is the bytes of a frame.
pub frame_of_layout : (role : Role) (lengths : Lengths) (bytes : List ℕ) (l : HasLayout bytes) → HeadHasNoEvidence role lengths l.first l.second l.len →
    IsSpelledBy role lengths l (frame_at l.first l.second l.key l.payload)
unfolding frame_at
frame_of_layout role lengths bytes l shows =
    let all : IsBytes (l.first ∷ l.second ∷ (l.len ++ (l.key ++ l.payload))) = subst IsBytes l.whole l.in_bytes in
    let all_len = IsBytes-left l.len (l.key ++ l.payload) all.1.1 in
    let all_key = IsBytes-left l.key l.payload (IsBytes-right l.len (l.key ++ l.payload) all.1.1) in
    let all_payload = IsBytes-right l.key l.payload (IsBytes-right l.len (l.key ++ l.payload) all.1.1) in
    let count = length l.payload in
    let field = len_form_at l.second in
    let decoded = spells-encoded_length (len_form_at l.second) l.len (len_form_at_field l.second) all_len (shows.by_length LengthTopBit) in
    let spells : Spells (len_form_at l.second) (length l.payload) = subst (λ n. Spells (len_form_at l.second) n) (sym l.payload_count) decoded in
    let encoded = len_form_of-form_at (len_form_at l.second) (length l.payload) spells in
    let form_is = form_at (len_form_at l.second) (length l.payload) in
    let key = key_at (mask_bit l.second) l.key in
    let keyed = key_at_parts (mask_bit l.second) l.key l.key_counted all_key in
    let payload = wire_payload (key_at (mask_bit l.second) l.key) l.payload in
    let size : length payload ≡ length l.payload = length-wire_payload key l.payload in
    let op = opcode-op_at (opcode_field l.first) (omega arith) (shows.by_first ReservedOpcode) in
    let unreserved : reserved_bits l.first ≡ 0 = elim (cases_eq (reserved_bits l.first) 0) [ inl none ↦ none | inr some ↦ absurd (shows.by_first ReservedBits (omega arith)) ] in
    let as_control : is_control (op_at (opcode_field l.first)) ≡ true → IsControlOpcode (opcode_field l.first) =
    λ control. subst IsControlOpcode op (control_opcode (op_at (opcode_field l.first)) control) in
    let short : is_control (op_at (opcode_field l.first)) ≡ true → IsLong (len_form_at l.second) → ⊥ =
    λ control long. shows.by_second ControlTooLong (as_control control, long) in
    let first_is = first_byte-fields l.first all.0 unreserved (shows.by_first ReservedOpcode) in
    let second_is : second_byte key (len_form_of form_is (length payload)) ≡ l.second =
    ap (λ n. second_byte key (len_form_of form_is n)) size
    ∙ (ap (λ g. second_byte key g) encoded.0 ∙ second_byte-fields l.second key all.1.0 keyed.0) in
    let len_is : length_bytes (len_form_of form_is (length payload)) (length payload) ≡ l.len =
    ap (λ n. length_bytes (len_form_of form_is n) n) size
    ∙ (ap (λ g. length_bytes g count) encoded.0
    ∙ (ap (λ n. length_bytes field n) l.payload_count ∙ length_bytes-encoded_length field l.len all_len l.len_count)) in
    let payload_is = wire_payload_twice key l.payload in
    let parts : frame_bytes (frame_at l.first l.second l.key l.payload) ≡ l.first ∷ l.second ∷ (l.len ++ l.key ++ l.payload) =
    λ i. first_is i ∷ second_is i ∷ (len_is i ++ keyed.1 i ++ payload_is i) in
    record {
      owed = record {
        encodable = record {
          key = keyed.2;
          payload = wire_payload_bytes key l.payload keyed.2 all_payload;
          size = rw size encoded.2;
          form = subst (λ n. FormFits form_is n) (sym size) encoded.1;
        };
        masked = subst (λ some. (some ≡ true) ↔ (role ≡ Client)) (sym keyed.0) (masked_for role (mask_bit l.second) (shows.by_second MaskMissing) (shows.by_second MaskPresent));
        shortest = λ only. form_at_minimal field count (λ not. shows.by_length LengthNotMinimal (only, subst (λ n. IsNotMinimal field n) l.payload_count not));
        control = λ control.
            let fits = form_at_short field count spells (short control) in
            record { final = final_control (fin_bit l.first) (λ more. shows.by_first ControlNotFinal (as_control control, more)); short = rw size fits.1; shortest = fits.0 };
      };
      not_one = λ close one.
          let is_control : is_control (op_at (opcode_field l.first)) ≡ true = ap is_control close in
          shows.by_second CloseOneByte (sym op ∙ ap opcode close, one_byte field count spells (short is_control) (sym size ∙ one));
      bytes_are = parts ∙ (ap (λ bs. l.first ∷ l.second ∷ bs) (append_assoc l.len l.key l.payload) ∙ sym l.whole);
      fin_is = refl;
      opcode_is = op;
      key_is = keyed.0;
      key_bytes_are = keyed.1;
      payload_is = wire_payload-key_at (mask_bit l.second) l.key l.payload;
      length_is = size ∙ l.payload_count;
    }

-- ---- a frame that is encoded as its sender must: its head is evidence for no refusal

unreserved_opcode : (op : Op) → IsReserved (opcode op) → ⊥
unreserved_opcode Continue (inl is) = omega (arith, is)
unreserved_opcode Continue (inr is) = omega (arith, is)
unreserved_opcode Text (inl is) = omega (arith, is)
unreserved_opcode Text (inr is) = omega (arith, is)
unreserved_opcode Binary (inl is) = omega (arith, is)
unreserved_opcode Binary (inr is) = omega (arith, is)
unreserved_opcode Close (inl is) = omega (arith, is)
unreserved_opcode Close (inr is) = omega (arith, is)
unreserved_opcode Ping (inl is) = omega (arith, is)
unreserved_opcode Ping (inr is) = omega (arith, is)
unreserved_opcode Pong (inl is) = omega (arith, is)
unreserved_opcode Pong (inr is) = omega (arith, is)

pub control_from_opcode : (op : Op) → IsControlOpcode (opcode op) → is_control op ≡ true
control_from_opcode Continue is = absurd (omega (arith, is))
control_from_opcode Text is = absurd (omega (arith, is))
control_from_opcode Binary is = absurd (omega (arith, is))
control_from_opcode Close is = refl
control_from_opcode Ping is = refl
control_from_opcode Pong is = refl

pub close_from_opcode : (op : Op) → opcode op ≡ 8 → op ≡ Close
close_from_opcode Continue is = absurd (omega (arith, is))
close_from_opcode Text is = absurd (omega (arith, is))
close_from_opcode Binary is = absurd (omega (arith, is))
close_from_opcode Close is = refl
close_from_opcode Ping is = absurd (omega (arith, is))
close_from_opcode Pong is = absurd (omega (arith, is))

short_is : (len : ℕ) → len ≤ 125 → (IsLong (len_form_of form.Shortest len) → ⊥) × ((n : ℕ) → len_form_of form.Shortest len ≡ len_form.Short n → len ≡ n)
short_is len small = rw (short-len_form_of len (omega arith)) ((λ long. long), (λ n is. cc))

minimal_is : (len : ℕ) → IsNotMinimal (len_form_of form.Shortest len) len → ⊥
minimal_is len =
    elim (cases_lt len 126) [
      | inl small ↦ rw (short-len_form_of len small) (λ not. not)
      | inr least ↦ elim (cases_lt len 65536) [
        | inl middle ↦ rw (two-len_form_of len least middle) (λ not. omega arith)
        | inr large ↦ rw (eight-len_form_of len large) (λ not. omega arith)
      ]
    ]

below_top : (f : LenForm) (len : ℕ) → len < 2 ^ 63 → HasTopBit f len → ⊥
below_top (len_form.Short n) len below top = top
below_top len_form.Two len below top = top
below_top len_form.Eight len below top = omega arith

pub first_shows_nothing : (fin : Bool) (op : Op) (first : ℕ) → IsFirstByteOf fin op first → (is_control op ≡ true → fin ≡ true) → (r : Reason) → EvidentInFirst r first → ⊥
first_shows_nothing fin op first fields final ReservedBits is_evident = omega (arith, is_evident, fields.unreserved)
first_shows_nothing fin op first fields final ReservedOpcode is_evident = unreserved_opcode op (subst IsReserved fields.opcode_is is_evident)
first_shows_nothing fin op first fields final ControlNotFinal is_evident =
    let is_final : fin ≡ true = final (control_from_opcode op (subst IsControlOpcode fields.opcode_is is_evident.0)) in
    false≢true (sym is_evident.1 ∙ (fields.fin_is ∙ is_final))
first_shows_nothing fin op first fields final _ is_evident = is_evident

pub second_shows_nothing : (role : Role) (lengths : Lengths) (f : Frame) → IsEncodedFor role lengths f → IsNoCloseOfOneByte f → (first second : ℕ) →
    opcode_field first ≡ opcode f.op → mask_bit second ≡ is_some f.key → len_form_at second ≡ len_form_of f.form (length f.payload) →
    (r : Reason) → EvidentInSecond role r first second → ⊥
second_shows_nothing role lengths f owed not_one first second op mask field MaskMissing is_evident = false≢true (sym is_evident.1 ∙ (mask ∙ owed.masked.1 is_evident.0))
second_shows_nothing role lengths f owed not_one first second op mask field MaskPresent is_evident =
    let client : role ≡ Client = owed.masked.0 (sym mask ∙ is_evident.1) in
    let server : role ≡ Server = is_evident.0 in
    cc
second_shows_nothing role lengths f owed not_one first second op mask field ControlTooLong is_evident =
    let law = owed.control (control_from_opcode f.op (subst IsControlOpcode op is_evident.0)) in
    let encoded : len_form_at second ≡ len_form_of form.Shortest (length f.payload) = field ∙ ap (λ g. len_form_of g (length f.payload)) law.shortest in
    (short_is (length f.payload) law.short).0 (subst IsLong encoded is_evident.1)
second_shows_nothing role lengths f owed not_one first second op mask field CloseOneByte is_evident =
    let is_close = close_from_opcode f.op (sym op ∙ is_evident.0) in
    let law = owed.control (ap is_control is_close) in
    let encoded : len_form_at second ≡ len_form_of form.Shortest (length f.payload) = field ∙ ap (λ g. len_form_of g (length f.payload)) law.shortest in
    not_one is_close ((short_is (length f.payload) law.short).1 1 (sym encoded ∙ is_evident.1))
second_shows_nothing role lengths f owed not_one first second op mask field _ is_evident = is_evident

pub length_shows_nothing : (role : Role) (lengths : Lengths) (f : Frame) → IsEncodedFor role lengths f → (g : LenForm) (bytes : List ℕ) →
    g ≡ len_form_of f.form (length f.payload) → encoded_length g bytes ≡ length f.payload →
    (r : Reason) → EvidentInLength lengths r g bytes → ⊥
length_shows_nothing role lengths f owed g bytes field decoded LengthTopBit is_evident = below_top g (length f.payload) owed.encodable.size (subst (λ n. HasTopBit g n) decoded is_evident)
length_shows_nothing role lengths f owed g bytes field decoded LengthNotMinimal is_evident =
    let encoded : g ≡ len_form_of form.Shortest (length f.payload) = field ∙ ap (λ h. len_form_of h (length f.payload)) (owed.shortest is_evident.0) in
    minimal_is (length f.payload) (subst (λ h. IsNotMinimal h (length f.payload)) encoded (subst (λ n. IsNotMinimal g n) decoded is_evident.1))
length_shows_nothing role lengths f owed g bytes field decoded _ is_evident = is_evident

pub frame_shows_nothing : (role : Role) (lengths : Lengths) (f : Frame) → IsEncodedFor role lengths f → IsNoCloseOfOneByte f →
    HeadHasNoEvidence role lengths
    (first_byte f.fin f.op)
    (second_byte f.key (len_form_of f.form (length f.payload)))
    (length_bytes (len_form_of f.form (length f.payload)) (length f.payload))
frame_shows_nothing role lengths f owed not_one =
    let first = first_byte f.fin f.op in
    let second = second_byte f.key (len_form_of f.form (length f.payload)) in
    let bytes = length_bytes (len_form_of f.form (length f.payload)) (length f.payload) in
    let spells = spells-len_form_of f.form (length f.payload) owed.encodable.form owed.encodable.size in
    let of_first = first_byte_fields f.fin f.op in
    let of_second = second_byte_fields f.key (len_form_of f.form (length f.payload)) (length f.payload) spells in
    let of_length = length_bytes_fields (len_form_of f.form (length f.payload)) (length f.payload) spells in
    record {
      by_first = first_shows_nothing f.fin f.op first of_first (λ control. (owed.control control).final);
      by_second = second_shows_nothing role lengths f owed not_one first second of_first.opcode_is of_second.mask_is of_second.field_is;
      by_length = length_shows_nothing role lengths f owed (len_form_at second) bytes of_second.field_is (ap (λ g. encoded_length g bytes) of_second.field_is ∙ of_length.decoded);
    }

-- A byte, from its fields.
pub first_byte-parts : (fin : Bool) (op : Op) (byte : ℕ) → IsFirstByteOf fin op byte → byte ≡ first_byte fin op
first_byte-parts false op byte fields = let low : byte < 128 = leb-false 128 byte fields.fin_is in omega (arith, fields.unreserved, fields.opcode_is)
first_byte-parts true op byte fields = let high : 128 ≤ byte = leb-true 128 byte fields.fin_is in omega (arith, fields.unreserved, fields.opcode_is, fields.below)
