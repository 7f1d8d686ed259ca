-- Frames and their bytes. RFC 6455 sections 5.2 and 5.3.
use Rattle.std.specs.Prelude.{◌≡◌, ℕ, ◌+◌, ◌%◌, ◌^◌, ◌<◌, ◌≤◌, Bool, true, false, List, [], ◌∷◌, ◌++◌, length, slice_index, bit_xor, Option, None, Some, IfSome, IsSome, ◌↔◌, is_some, nat_lt, if◌then◌else◌, ⊤}
use Rattle.std.specs.List.{AllByRecursion, flat_map}
use Rattle.std.specs.Int.{to_be_bytes, w16, w64}
use Rattle.wsn_wire.specs.declared.endpoint.Role.{Role, TheVariants.{Client}}
use Rattle.wsn_wire.specs.declared.opcode.Op.{Op, TheVariants.{Continue, Text, Binary, Close, Ping, Pong}}
use Rattle.wsn_wire.specs.declared.length_encoding.Form.{Form}
use Rattle.wsn_wire.specs.declared.length_encoding.Form.TheVariants as form
use Rattle.wsn_wire.specs.declared.length_encoding.LenForm.{LenForm}
use Rattle.wsn_wire.specs.declared.length_encoding.LenForm.TheVariants as len_form

-- All numbers are from 0 to 255.
abbrev pub IsBytes : List ℕ → Type 0
IsBytes = AllByRecursion (λ b. b < 256)

-- A frame. The key is four bytes, or none; the payload is unmasked.
pub record Frame : Type 0 where
  pub fin : Bool
  pub op : Op
  pub key : Option (List ℕ)
  pub form : Form
  pub payload : List ℕ

-- [5.2] The number of an opcode.
abbrev pub opcode : Op → ℕ
opcode Continue = 0
opcode Text = 1
opcode Binary = 2
opcode Close = 8
opcode Ping = 9
opcode Pong = 10

-- [5.5] Close, Ping and Pong are control frames; the others are data frames [5.6].
abbrev pub is_control : Op → Bool
is_control Continue = false
is_control Text = false
is_control Binary = false
is_control Close = true
is_control Ping = true
is_control Pong = true

-- ---- the head [5.2]

-- The first byte: FIN is the highest bit, the opcode the low four.
abbrev pub first_byte : Bool → Op → ℕ
first_byte fin op = (if fin then 128 else 0) + opcode op

-- How a length is encoded in a form. The shortest: in the second byte up to 125, in two bytes up to 65,535, otherwise
-- in eight. The forms Two and Eight use two and eight bytes.
abbrev pub len_form_of : Form → ℕ → LenForm
len_form_of form.Shortest len =
    if nat_lt len 126 then len_form.Short len else (if nat_lt len 65536 then len_form.Two else len_form.Eight)
len_form_of form.Two len = len_form.Two
len_form_of form.Eight len = len_form.Eight

-- The low seven bits of the second byte.
abbrev pub length_field : LenForm → ℕ
length_field (len_form.Short len) = len
length_field len_form.Two = 126
length_field len_form.Eight = 127

-- The second byte: MASK is the highest bit.
abbrev pub second_byte : Option (List ℕ) → LenForm → ℕ
second_byte key f = (if is_some key then 128 else 0) + length_field f

-- The second byte of each head of this form that the role sends, whatever its key is.
abbrev pub IsSecondByteFor : Role → ℕ → LenForm → Type 0
IsSecondByteFor role b f = (key : Option (List ℕ)) → (IsSome key ↔ (role ≡ Client)) → b ≡ second_byte key f

-- The bytes after the second one that hold the length, the highest first.
abbrev pub length_bytes : LenForm → ℕ → List ℕ
length_bytes (len_form.Short _) len = []
length_bytes len_form.Two len = to_be_bytes w16 len
length_bytes len_form.Eight len = to_be_bytes w64 len

-- The bytes of a key, or none.
abbrev pub key_bytes : Option (List ℕ) → List ℕ
key_bytes None = []
key_bytes (Some key) = key

-- A head: the first byte, the second, the bytes of the length, the key.
abbrev pub head_bytes : Bool → Op → Option (List ℕ) → Form → ℕ → List ℕ
head_bytes fin op key f len =
    first_byte fin op ∷ second_byte key (len_form_of f len) ∷ (length_bytes (len_form_of f len) len ++ key_bytes key)

-- ---- masking [5.3]

-- Each byte XOR a byte of the key, which repeats; `start` is the offset in the payload.
abbrev pub masked : List ℕ → ℕ → List ℕ → List ℕ
masked key start [] = []
masked key start (b ∷ bs) = bit_xor b (slice_index key (start % 4)) ∷ masked key (start + 1) bs

-- A payload as it is sent.
abbrev pub wire_payload : Option (List ℕ) → List ℕ → List ℕ
wire_payload None payload = payload
wire_payload (Some key) payload = masked key 0 payload

-- ---- a frame, and a stream of frames

-- The bytes of a frame: its head, and its payload as it is sent.
abbrev pub frame_bytes : Frame → List ℕ
frame_bytes f = head_bytes f.fin f.op f.key f.form (length f.payload) ++ wire_payload f.key f.payload

-- The bytes of frames, one after another.
abbrev pub stream : List Frame → List ℕ
stream = flat_map frame_bytes

-- ---- what can be encoded

-- A key is four bytes.
abbrev pub IsKey : List ℕ → Type 0
IsKey key = (length key ≡ 4) × IsBytes key

-- The form can encode the length: the forms Two and Eight are for lengths that fewer bytes could hold.
abbrev pub FormFits : Form → ℕ → Type 0
FormFits form.Shortest len = ⊤
FormFits form.Two len = len ≤ 125
FormFits form.Eight len = len ≤ 65535

-- The frame can be encoded, whoever sends it. Its payload is shorter than 2^63 bytes [5.2].
pub record IsEncodable (f : Frame) : Type 0 where
  pub key : IfSome f.key IsKey
  pub payload : IsBytes f.payload
  pub size : length f.payload < 2 ^ 63
  pub form : FormFits f.form (length f.payload)
