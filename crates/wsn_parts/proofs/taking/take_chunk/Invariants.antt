use Rattle.std.proofs.Common.{◌≡◌, ◌+◌, ◌-◌, ◌≤◌, ℕ, false, List, ◌++◌, length, take, drop}
use Rattle.wsn_io.specs.Transfer.{Outgoing}
use Rattle.wsn_wire.specs.declared.endpoint.Role.{Role}
use Rattle.wsn_rules.specs.Limits.{Limits}
use Rattle.wsn_scan.specs.Scans.{room_of}
use Rattle.wsn_parts.specs.Following.{HasSought}
use Rattle.wsn_parts.proofs.taking.take_chunk.Given as goal

-- The chunk so far has been taken and has no answer, and the rest of the chunk is unchanged.
abbrev pub invariant-loop-at : goal.invariant-loop-at
invariant-loop-at g l = record {
  within : l.at ≤ length l.fn.chunk;
  size : length l.chunk ≡ length l.fn.chunk;
  kept : drop l.at l.chunk ≡ drop l.at l.fn.chunk;
  room : room_of l.scan + l.at ≡ room_of l.fn.scan;
  writable : l.output.failed ≡ false;
  sought : (role : Role) (limits : Limits) (at : ℕ) (came : List ℕ) (first : Outgoing) → HasSought role limits at l.fn.scan l.fn.event came first l.fn.output →
      HasSought role limits at l.scan l.event (came ++ take l.at l.fn.chunk) first l.output;
}

abbrev pub decreases-loop-at : goal.decreases-loop-at
decreases-loop-at g l = length l.initial.chunk - l.at
