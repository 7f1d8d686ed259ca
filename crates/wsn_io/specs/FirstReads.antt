-- A reader that keeps the first bytes that it returns.
use Rattle.std.specs.Prelude.{ℕ, Option, Result, Ok, Err, List, [], take}

-- The bytes that are left to be read, if they are known, and the bytes that are kept.
pub record FirstRead : Type 0 where
  pub remaining : Option (List ℕ)
  pub kept : List ℕ

-- The bytes that a read returned in a buffer: none if it failed.
abbrev pub returned_in : {E : Type 0} → Result ℕ E → List ℕ → List ℕ
returned_in (Ok n) buffer = take n buffer
returned_in (Err error) buffer = []
