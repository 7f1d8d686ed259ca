use Rattle.std.proofs.Common.{◌≡◌, ◌-◌, ◌≤◌, length, map, drop}
use Rattle.wsn_plan.specs.Gathering.{kept_meant}
use Rattle.wsn_plan.specs.Walking.{from_message}
use Rattle.wsn_plan.proofs.walking.next_message.Given as goal

-- There is no message before this index.
abbrev pub invariant-loop-at : goal.invariant-loop-at
invariant-loop-at g l = (l.at ≤ length l.events) × (from_message (drop l.from (map kept_meant l.events)) ≡ from_message (drop l.at (map kept_meant l.events)))

abbrev pub decreases-loop-at : goal.decreases-loop-at
decreases-loop-at g l = length l.events - l.at
