-- What is due of a begun stand-in.
use Rattle.std.specs.Prelude.{ℕ, zero, suc, ◌/◌, ◌%◌, ◌==◌, List, [], ◌∷◌, if◌then◌else◌}
use Rattle.wsn_redact.specs.declared.stand_ins.Due.{Due}

-- The bytes of a number, the lowest first, up to the last one that isn't 0, and at most the given number of them.
abbrev pub bytes_in : ℕ → ℕ → List ℕ
bytes_in zero n = []
bytes_in (suc most) n = if n == 0 then [] else n % 256 ∷ bytes_in most (n / 256)

-- Its bytes.
abbrev pub due_of : Due → List ℕ
due_of due = bytes_in 4 due.bytes
