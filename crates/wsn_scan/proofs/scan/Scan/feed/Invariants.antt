use Rattle.std.proofs.Common.{◌≡◌, ◌+◌, ◌-◌, ◌≤◌, List, length, drop}
use Rattle.wsn_wire.specs.Frame.{IsBytes}
use Rattle.wsn_rules.specs.declared.head_info.HeadInfo.{HeadInfo}
use Rattle.wsn_scan.specs.Feeding.{ConsumesPrefix}
use Rattle.wsn_scan.proofs.scan.Scan.feed.Given as goal

-- The scan has consumed the chunk so far, and the rest of the chunk is unchanged.
abbrev pub invariant-loop-at : goal.invariant-loop-at
invariant-loop-at l = record {
  in_bytes : IsBytes l.fn.chunk;
  within : l.at ≤ length l.fn.chunk;
  size : length l.chunk ≡ length l.fn.chunk;
  kept : drop l.at l.chunk ≡ drop l.at l.fn.chunk;
  room : l.self.room + l.at ≡ l.fn.self.room;
  consumes : (more : List HeadInfo) × ConsumesPrefix l.fn.self l.self l.fn.chunk l.at more;
}

abbrev pub decreases-loop-at : goal.decreases-loop-at
decreases-loop-at l = length l.initial.chunk - l.at
