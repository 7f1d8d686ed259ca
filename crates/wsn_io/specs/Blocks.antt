-- The state of a block writer, as contracts use it.
use Rattle.std.specs.Prelude.{ℕ, Bool, List, Option}
use Rattle.std.specs.Io.KnownBytes.{append_known}

-- The bytes that the writer holds, if they are known; the bytes that are buffered; and whether a write has failed.
pub record BlockOutput : Type 0 where
  pub written : Option (List ℕ)
  pub pending : List ℕ
  pub failed : Bool

-- What was written, and then what is buffered.
abbrev pub all_of : BlockOutput → Option (List ℕ)
all_of output = append_known output.written output.pending
