use Rattle.std.proofs.Common.{◌≡◌, ◌+◌, ◌-◌, ◌≤◌, ℕ, List, ◌++◌, length, take, drop}
use Rattle.wsn_wire.specs.declared.endpoint.Role.{Role}
use Rattle.wsn_rules.specs.Limits.{Limits}
use Rattle.wsn_rules.specs.ShownStream.{Shown}
use Rattle.wsn_scan.specs.Scans.{room_of}
use Rattle.wsn_show.specs.ShownSoFar.{HasShownFrames, ShowsFrames}
use Rattle.wsn_show.proofs.feeding.feed_unrefused.Given as goal

-- The scan has consumed the chunk so far and hasn't refused it, and the rest of the chunk is unchanged.
abbrev pub invariant-loop-at : goal.invariant-loop-at
invariant-loop-at g l = record {
  within : l.at ≤ length l.fn.chunk;
  size : length l.chunk ≡ length l.fn.chunk;
  kept : drop l.at l.chunk ≡ drop l.at l.fn.chunk;
  room : room_of l.scan + l.at ≡ room_of l.fn.scan;
  shows : (role : Role) (limits : Limits) (came : List ℕ) (shown : List Shown) → HasShownFrames l.fn.context.style role limits l.fn.scan l.fn.parts came shown →
      ShowsFrames role limits l.scan l.parts l.fn.context l.fn.output l.output (came ++ take l.at l.fn.chunk) shown;
}

abbrev pub decreases-loop-at : goal.decreases-loop-at
decreases-loop-at g l = length l.initial.chunk - l.at
