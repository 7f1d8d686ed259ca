-- The limits under which a stream is read.
use Rattle.std.specs.Prelude.{ℕ, ◌^◌, ◌<◌, ◌≤◌, Option}
use Rattle.std.specs.Option.{ForSome}
use Rattle.wsn_wire.specs.declared.length_encoding.Lengths.{Lengths}

-- The maximum number of bytes in a message, of bytes in an input, and of frames in a message (none: any number), and
-- which encodings of a length are accepted.
pub record Limits : Type 0 where
  pub message : ℕ
  pub input : ℕ
  pub frames : Option ℕ
  pub lengths : Lengths

-- A message has at most 16,777,216 bytes, and an input at most 2^40. A limit on frames is at least 1.
pub record InRange (limits : Limits) : Type 0 where
  pub message : limits.message ≤ 16777216
  pub input : limits.input ≤ 2 ^ 40
  pub frames : ForSome limits.frames (λ f. (1 ≤ f) × (f < 2 ^ 32))
