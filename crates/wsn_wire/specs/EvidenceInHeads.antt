-- The refusals for which a frame's head alone is evidence. RFC 6455 sections 5.1, 5.2 and 5.5.
use Rattle.std.specs.Prelude.{◌≡◌, ℕ, ◌^◌, ◌<◌, ◌≤◌, ◌⊎◌, false, true, List, ◌≢◌, length}
use Rattle.wsn_wire.specs.declared.endpoint.Role.{Role, TheVariants.{Client, Server}}
use Rattle.wsn_wire.specs.declared.length_encoding.Lengths.{Lengths, TheVariants.{Shortest}}
use Rattle.wsn_wire.specs.declared.length_encoding.LenForm.{LenForm, TheVariants.{Short, Two, Eight}}
use Rattle.wsn_wire.specs.declared.refusal.Reason.{Reason, TheVariants.{ReservedBits, ReservedOpcode, ControlNotFinal, MaskMissing, MaskPresent, ControlTooLong, CloseOneByte, LengthTopBit, LengthNotMinimal}}
use Rattle.wsn_wire.specs.ReceivedHead.{fin_bit, reserved_bits, opcode_field, mask_bit, len_form_at, encoded_length}
use Rattle.wsn_wire.specs.declared.opcode.Op.TheVariants.{Close}
use Rattle.wsn_wire.specs.Frame.{Frame}

-- [5.2] The opcodes 3 to 7 and 11 to 15 are reserved.
abbrev pub IsReserved : ℕ → Type 0
IsReserved n = ((3 ≤ n) × (n ≤ 7)) ⊎ ((11 ≤ n) × (n ≤ 15))

-- [5.5] The opcodes 8, 9 and 10 are those of control frames.
abbrev pub IsControlOpcode : ℕ → Type 0
IsControlOpcode n = (8 ≤ n) × (n ≤ 10)

-- ---- evidence in the first byte

-- The first byte is evidence for the reason.
abbrev pub EvidentInFirst : Reason → ℕ → Type 0
EvidentInFirst ReservedBits first = 0 < reserved_bits first
EvidentInFirst ReservedOpcode first = IsReserved (opcode_field first)
EvidentInFirst ControlNotFinal first = IsControlOpcode (opcode_field first) × (fin_bit first ≡ false)
EvidentInFirst _ first = ⊥

-- ---- evidence in the second byte

-- Length bytes follow the second byte.
abbrev pub IsLong : LenForm → Type 0
IsLong (Short _) = ⊥
IsLong Two = Unit {0}
IsLong Eight = Unit {0}

-- The second byte, after this first one, is evidence for the reason.
abbrev pub EvidentInSecond : Role → Reason → ℕ → ℕ → Type 0
EvidentInSecond role MaskMissing first second = (role ≡ Client) × (mask_bit second ≡ false)
EvidentInSecond role MaskPresent first second = (role ≡ Server) × (mask_bit second ≡ true)
EvidentInSecond role ControlTooLong first second = IsControlOpcode (opcode_field first) × IsLong (len_form_at second)
EvidentInSecond role CloseOneByte first second = (opcode_field first ≡ 8) × (len_form_at second ≡ Short 1)
EvidentInSecond role _ first second = ⊥

-- ---- evidence in the length bytes

-- Fewer bytes could hold the length.
abbrev pub IsNotMinimal : LenForm → ℕ → Type 0
IsNotMinimal (Short _) len = ⊥
IsNotMinimal Two len = len < 126
IsNotMinimal Eight len = len < 65536

-- A length in eight bytes is 2^63 or more.
abbrev pub HasTopBit : LenForm → ℕ → Type 0
HasTopBit (Short _) len = ⊥
HasTopBit Two len = ⊥
HasTopBit Eight len = 2 ^ 63 ≤ len

-- The length bytes are evidence for the reason.
abbrev pub EvidentInLength : Lengths → Reason → LenForm → List ℕ → Type 0
EvidentInLength lengths LengthTopBit f bytes = HasTopBit f (encoded_length f bytes)
EvidentInLength lengths LengthNotMinimal f bytes = (lengths ≡ Shortest) × IsNotMinimal f (encoded_length f bytes)
EvidentInLength lengths _ f bytes = ⊥

-- The head is evidence for no reason: neither its first byte, nor its second, nor its length bytes.
pub record HeadHasNoEvidence (role : Role) (lengths : Lengths) (first second : ℕ) (len : List ℕ) : Type 0 where
  pub by_first : (r : Reason) → ¬ (EvidentInFirst r first)
  pub by_second : (r : Reason) → ¬ (EvidentInSecond role r first second)
  pub by_length : (r : Reason) → ¬ (EvidentInLength lengths r (len_form_at second) len)

-- [5.5.1] The frame isn't a Close whose body is a single byte.
abbrev pub IsNoCloseOfOneByte : Frame → Type 0
IsNoCloseOfOneByte f = f.op ≡ Close → length f.payload ≢ 1
