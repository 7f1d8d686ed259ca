-- What a contract sees of a room.
use Rattle.std.specs.Prelude.{ℕ, List}

-- The text that is written in a room, and the size in bytes of the memory that it has.
pub record Writing : Type 0 where
  pub text : List ℕ
  pub size : ℕ
