-- An input that is read in chunks up to its limit: what has come, and what the next read gives.
use Rattle.std.specs.Prelude.{◌≡◌, ℕ, ◌+◌, ◌≤◌, Bool, true, false, Option, Some, None, Result, Ok, Err, List, [], ◌++◌, length, take, if◌then◌else◌}
use Rattle.std.specs.Io.KnownBytes.{IsAtEnd}
use Rattle.wsn_io.specs.Transfer.{Incoming, IsConsumed, IsReceived}
use Rattle.wsn_io.specs.declared.stop.Stop.{Stop}
use Rattle.wsn_io.specs.declared.stop.Stop.TheVariants as stop
use Rattle.wsn_wire.specs.Frame.{IsBytes}
use Rattle.wsn_rules.specs.Limits.{Limits}
use Rattle.wsn_scan.specs.declared.chunk_reader.ChunkReader.{ChunkReader}

-- whether a byte past the limit came
abbrev pub has_passed : ChunkReader → Bool
has_passed chunks = chunks.past_limit

-- The reader has counted these bytes within the limit, and these past it: at most one.
pub record HasCounted (limits : Limits) (chunks : ChunkReader) (came past : List ℕ) : Type 0 where
  pub room : chunks.room + length came ≡ limits.input
  pub full : chunks.past_limit ≡ true → (chunks.room ≡ 0) × (length past ≡ 1)
  pub none : chunks.past_limit ≡ false → past ≡ []

-- In the chunks so far these bytes came, all within the limit; and after them perhaps one byte past it.
pub record HasCome (limits : Limits) (first now : Incoming) (chunks : ChunkReader) (came : List ℕ) : Type 0 where
  pub past : List ℕ
  pub consumed : IsConsumed first now (came ++ past)
  pub counted : HasCounted limits chunks came past
  pub unfailed : now.failed ≡ false

-- an upper bound on the number of chunks that may still come
abbrev pub chunks_ahead : ChunkReader → ℕ
chunks_ahead chunks = chunks.room + (if chunks.past_limit then 0 else 1)

-- The next chunk is the first n bytes of the buffer, which also had room for the byte past the limit.
pub record IsChunkOf (limits : Limits) (first new : Incoming) (chunks : ChunkReader) (came buffer : List ℕ) (n : ℕ)
    : Type 0 where
  pub in_buffer : n ≤ length buffer
  pub come : HasCome limits first new chunks (came ++ take n buffer)
  pub short : n + length come.past ≤ length buffer
  pub in_bytes : IsBytes (take n buffer ++ come.past)

-- The input has ended, within its limit.
pub record IsEndOf (limits : Limits) (first new : Incoming) (came : List ℕ) : Type 0 where
  pub received : IsReceived (limits.input + 1) first new came
  pub within : length came ≤ limits.input
  pub at_end : IsAtEnd new.remaining
  pub unfailed : new.failed ≡ false

-- Of all bytes that came: at the input limit one is past it; at a failed read none is.
abbrev pub StopsAt : Limits → Incoming → List ℕ → Stop → Type 0
StopsAt limits new all stop.InputLimit = (length all ≡ limits.input + 1) × (new.failed ≡ false)
StopsAt limits new all stop.Read = (length all ≤ limits.input) × (new.failed ≡ true)
StopsAt limits new all stop.Memory = ⊥
StopsAt limits new all stop.Write = ⊥

-- No more is read. Of all bytes that came, these are within the limit.
pub record IsHaltOf (limits : Limits) (first new : Incoming) (came : List ℕ) (halted : Stop) : Type 0 where
  pub all : List ℕ
  pub received : IsReceived (limits.input + 1) first new all
  pub within : take limits.input all ≡ came
  pub stops : StopsAt limits new all halted

-- After the chunks so far: the next one, or the end, or a stop.
abbrev pub IsNextOf : Limits → Incoming → Incoming → ChunkReader → List ℕ → List ℕ → Result (Option ℕ) Stop → Type 0
IsNextOf limits first new chunks came buffer (Ok (Some n)) = IsChunkOf limits first new chunks came buffer n
IsNextOf limits first new chunks came buffer (Ok None) = IsEndOf limits first new came
IsNextOf limits first new chunks came buffer (Err halted) = IsHaltOf limits first new came halted
