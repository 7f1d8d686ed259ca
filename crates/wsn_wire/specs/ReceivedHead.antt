-- How bytes are read as a frame, whether or not such a frame may be sent. RFC 6455 section 5.2.
use Rattle.std.specs.Prelude.{◌≡◌, ℕ, ◌%◌, ◌/◌, Bool, List, ◌∷◌, ◌++◌, length, nat_lt, nat_le, ◌==◌, if◌then◌else◌}
use Rattle.std.specs.Int.{from_be_bytes, w16, w64}
use Rattle.wsn_wire.specs.declared.length_encoding.LenForm.{LenForm, TheVariants.{Short, Two, Eight}}
use Rattle.wsn_wire.specs.Frame.{IsBytes}

-- ---- the fields of the first two bytes

-- FIN.
abbrev pub fin_bit : ℕ → Bool
fin_bit first = nat_le 128 first

-- RSV1 to RSV3.
abbrev pub reserved_bits : ℕ → ℕ
reserved_bits first = first / 16 % 8

-- The low four bits.
abbrev pub opcode_field : ℕ → ℕ
opcode_field first = first % 16

-- MASK.
abbrev pub mask_bit : ℕ → Bool
mask_bit second = nat_le 128 second

-- A length field of 126 means that two bytes hold the length; 127 means that eight bytes do.
abbrev pub len_form_at : ℕ → LenForm
len_form_at second =
    let field = second % 128 in
    if nat_lt field 126 then Short field else (if field == 126 then Two else Eight)

-- ---- what the length field and MASK require

-- The number of length bytes.
abbrev pub length_count : LenForm → ℕ
length_count (Short _) = 0
length_count Two = 2
length_count Eight = 8

-- The payload's length.
abbrev pub encoded_length : LenForm → List ℕ → ℕ
encoded_length (Short len) bytes = len
encoded_length Two bytes = from_be_bytes w16 bytes
encoded_length Eight bytes = from_be_bytes w64 bytes

-- The number of key bytes.
abbrev pub key_count : ℕ → ℕ
key_count second = if mask_bit second then 4 else 0

-- The bytes are two bytes, the length bytes, the key if MASK is set, and a payload of that length. The opcode may be
-- any, and the length may be in a longer encoding.
pub record HasLayout (bytes : List ℕ) : Type 0 where
  pub first : ℕ
  pub second : ℕ
  pub len : List ℕ
  pub key : List ℕ
  pub payload : List ℕ
  pub whole : bytes ≡ first ∷ second ∷ (len ++ (key ++ payload))
  pub in_bytes : IsBytes bytes
  pub len_count : length len ≡ length_count (len_form_at second)
  pub key_counted : length key ≡ key_count second
  pub payload_count : length payload ≡ encoded_length (len_form_at second) len
