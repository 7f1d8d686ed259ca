use Rattle.std.proofs.Common.{◌≡◌, ℕ, ◌+◌, ◌≤◌, List, ◌++◌, length, take, drop}
use Rattle.wsn_rules.specs.BadCharacter.{PlacedByte, placed}
use Rattle.wsn_show.specs.LastPayloads.{HasLastPayload}
use Rattle.wsn_show.proofs.last_payload.LastPayload.add.Given as goal

-- The bytes that weren't skipped came.
abbrev pub invariant-loop-index : goal.invariant-loop-index
invariant-loop-index l = (l.skipped ≤ l.index)
    × ((came : List PlacedByte) (offset : ℕ) → offset + length l.bytes ≡ l.end → HasLastPayload l.fn.self came →
    HasLastPayload l.self (came ++ placed (offset + l.skipped) (drop l.skipped (take l.index l.bytes))))
