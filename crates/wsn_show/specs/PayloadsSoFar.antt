-- The first bytes of a payload, in memory that a caller lends.
use Rattle.std.specs.Prelude.{◌≡◌, ℕ, ◌≤◌, List, length, take}

-- The number of the bytes that came, the first of them, and the size of the memory in bytes.
pub record PayloadSoFar : Type 0 where
  pub count : ℕ
  pub held : List ℕ
  pub size : ℕ

-- These bytes came. Their number is counted, and the first of them are held, as many as fit; at least n fit.
pub record HasPayload (n : ℕ) (payload : PayloadSoFar) (came : List ℕ) : Type 0 where
  pub count : payload.count ≡ length came
  pub held : payload.held ≡ take payload.size came
  pub enough : n ≤ payload.size
