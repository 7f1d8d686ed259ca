-- A Close's body: a code in two bytes, and a reason.
use Rattle.std.proofs.Common.{◌≡◌, ℕ, ◌<◌, ◌≤◌, List, [], ◌∷◌, ◌++◌, length, get_or, drop, take, arith}
use Rattle.std.proofs.lemmas.Nat.{be_bytes_2}
use Rattle.std.specs.Int.{from_be_bytes, to_be_bytes, w16}

two_bytes : (a b : ℕ) → a < 256 → b < 256 → (i : ℕ) → get_or (a ∷ b ∷ []) i 0 < 256
two_bytes a b high low i = grind arith

-- a body is the code in its first two bytes, and the bytes after them
pub code_and_rest : (body : List ℕ) (code : ℕ) → 2 ≤ length body → ((i : ℕ) → get_or body i 0 < 256) → code ≡ from_be_bytes w16 (take 2 body) → to_be_bytes w16 code ++ drop 2 body ≡ body
code_and_rest body code enough below reported = grind (arith, be_bytes_2, two_bytes)
