-- The fields of a head as bits of a byte under a mask.
use Rattle.std.proofs.Common.{◌≡◌, ℕ, ◌<◌, refl, bit_and, nat_eq, not, sym, ◌∙◌, arith, inl, inr}
use Rattle.std.proofs.lemmas.Bool.{agree_below_at, eq-eqb, eqb-true, cases_eq}
use Rattle.std.proofs.lemmas.Nat.{and_mask}
use Rattle.wsn_wire.specs.ReceivedHead.{fin_bit, reserved_bits, opcode_field}

pub opcode_mask : (byte : ℕ) → bit_and byte 15 ≡ opcode_field byte
opcode_mask byte = and_mask byte 4

-- The highest bit is FIN, or MASK.
pub top_mask : (byte : ℕ) → byte < 256 → not (nat_eq (bit_and byte 128) 0) ≡ fin_bit byte
top_mask byte below = agree_below_at (λ b. not (nat_eq (bit_and b 128) 0)) fin_bit 256 byte refl below

reserved_mask : (byte : ℕ) → byte < 256 → nat_eq (bit_and byte 112) 0 ≡ nat_eq (reserved_bits byte) 0
reserved_mask byte below = agree_below_at (λ b. nat_eq (bit_and b 112) 0) (λ b. nat_eq (reserved_bits b) 0) 256 byte refl below

pub reserved_clear : (byte : ℕ) → byte < 256 → bit_and byte 112 ≡ 0 → reserved_bits byte ≡ 0
reserved_clear byte below clear = eqb-true (reserved_bits byte) 0 (sym (reserved_mask byte below) ∙ eq-eqb (bit_and byte 112) 0 clear)

pub reserved_set : (byte : ℕ) → byte < 256 → (bit_and byte 112 ≡ 0 → ⊥) → 0 < reserved_bits byte
reserved_set byte below set =
    elim (cases_eq (reserved_bits byte) 0) [
      | inl none ↦ absurd (set (eqb-true (bit_and byte 112) 0 (reserved_mask byte below ∙ eq-eqb (reserved_bits byte) 0 none)))
      | inr some ↦ omega arith
    ]
