-- Where an input's bytes come from, as its model has it.
use Rattle.std.specs.Prelude.{⊤, ℕ, ◌+◌, ◌^◌, ◌<◌, Bool, true, false, List, Option, Some, length}
use Rattle.wsn_io.specs.declared.byte_source.ByteSource.{ByteSource, TheVariants.{Reader, Lent}}

-- the bytes that are left, if they are known
abbrev pub bytes_left : {R : Type 0} → (R → Option (List ℕ)) → ByteSource R → Option (List ℕ)
bytes_left remaining (Reader reader) = remaining reader
bytes_left remaining (Lent bytes) = Some bytes.now

-- whether they are in memory
abbrev pub is_lent : {R : Type 0} → ByteSource R → Bool
is_lent (Reader reader) = false
is_lent (Lent bytes) = true

-- Bytes in memory can be counted: those that have come and those that are left are fewer than 2^63 together.
abbrev pub IsCountable : {R : Type 0} → ℕ → ByteSource R → Type 0
IsCountable count (Reader reader) = ⊤
IsCountable count (Lent bytes) = count + length bytes.now < 2 ^ 63
