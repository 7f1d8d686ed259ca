-- The states of an input and of an output, and what it means that bytes were received or written.
use Rattle.std.specs.Prelude.{◌≡◌, ℕ, ◌+◌, ◌≤◌, ◌⊎◌, ◌++◌, Bool, true, false, List, Option, length, take}
use Rattle.std.specs.Io.KnownBytes.{Appends, Consumes, Keeps}

-- An input: the bytes that are to come, if they are known; how many have come; whether a read has failed; and whether
-- its bytes are lent, in memory, so that no read fails.
pub record Incoming : Type 0 where
  pub remaining : Option (List ℕ)
  pub count : ℕ
  pub failed : Bool
  pub lent : Bool

-- An output: the bytes that its writer holds, if they are known, and whether a write has failed.
pub record Outgoing : Type 0 where
  pub written : Option (List ℕ)
  pub failed : Bool

-- ---- received bytes

-- No read of lent bytes fails.
abbrev pub StaysReadable : Incoming → Incoming → Type 0
StaysReadable old new = old.lent ≡ true → (new.lent ≡ true) × (new.failed ≡ old.failed)

-- These bytes came from the input. Whether its reader's bytes are known or not, it has counted them.
pub record IsConsumed (old new : Incoming) (came : List ℕ) : Type 0 where
  pub consumed : Consumes old.remaining new.remaining came
  pub counted : new.count ≡ old.count + length came
  pub readable : StaysReadable old new

-- No byte came from the input.
pub record IsKept (old new : Incoming) : Type 0 where
  pub kept : Keeps old.remaining new.remaining
  pub counted : new.count ≡ old.count
  pub readable : StaysReadable old new

-- These bytes came from the input, at most `most` of them.
pub record IsReceived (most : ℕ) (old new : Incoming) (came : List ℕ) : Type 0 where
  pub consumed : IsConsumed old new came
  pub few : length came ≤ most

-- ---- written bytes

-- All these bytes were written, and no write has failed.
abbrev pub IsWritten : Outgoing → Outgoing → List ℕ → Type 0
IsWritten before after bytes = (after.failed ≡ false) × Appends before.written after.written bytes

-- A prefix of these bytes was written, and then a write failed.
abbrev pub IsPartlyWritten : Outgoing → Outgoing → List ℕ → Type 0
IsPartlyWritten before after bytes =
    (after.failed ≡ true) × ((k : ℕ) × Appends before.written after.written (take k bytes))

-- All these bytes were written, or a prefix of them before a write failed.
abbrev pub IsWrittenUpToFailure : Outgoing → Outgoing → List ℕ → Type 0
IsWrittenUpToFailure before after bytes = IsWritten before after bytes ⊎ IsPartlyWritten before after bytes

-- All of a text of this kind was written, and perhaps more.
abbrev pub IsWrittenAtLeast : (List ℕ → Type 0) → Outgoing → Outgoing → Type 0
IsWrittenAtLeast IsText before after =
    (text more : List ℕ) × IsText text × Appends before.written after.written (text ++ more)

-- Of all but the last bytes that came, at most `most`, the text was written, and perhaps more.
pub record IsWrittenBut (most : ℕ) (IsTextOf : List ℕ → List ℕ → Type 0) (came : List ℕ) (before after : Outgoing)
    : Type 0 where
  pub done : List ℕ
  pub last : List ℕ
  pub whole : came ≡ done ++ last
  pub short : length last ≤ most
  pub written : IsWrittenAtLeast (IsTextOf done) before after
