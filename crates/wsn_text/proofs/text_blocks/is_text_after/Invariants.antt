use Rattle.std.proofs.Common.{◌≡◌, ℕ, ◌+◌, ◌-◌, ◌*◌, List, ◌∷◌, ◌++◌, length, take, replicate}
use Rattle.simdutf8.specs.Tracks.{HasRead}
use Rattle.wsn_text.proofs.text_blocks.is_text_after.Given as goal

-- Whole blocks are left. What has been read and the block are zeros, and then the bytes before `at`.
abbrev pub invariant-loop-at : goal.invariant-loop-at
invariant-loop-at l =
    ((k : ℕ) × (length l.bytes ≡ l.at + 64 * k)) ×
    ((n : ℕ) × (read : List ℕ) × HasRead l.checker read × (read ++ l.block ≡ replicate n 0 ++ (l.first ∷ take l.at l.bytes)))

abbrev pub decreases-loop-at : goal.decreases-loop-at
decreases-loop-at l = length l.bytes - l.at
