use Rattle.std.proofs.Common.{◌≡◌, ◌+◌, ◌-◌, ◌≤◌, List, length, drop}
use Rattle.wsn_wire.specs.Frame.{IsBytes}
use Rattle.wsn_rules.specs.declared.head_info.HeadInfo.{HeadInfo}
use Rattle.wsn_scan.specs.Feeding.{ConsumesPrefix}
use Rattle.wsn_parts.specs.Listing.{ListsMore}
use Rattle.wsn_parts.proofs.listing.list_run.Given as goal

-- The scan has consumed the chunk so far, the heads that it took were printed or are held, and the rest of the chunk is
-- unchanged.
abbrev pub invariant-loop-taken : goal.invariant-loop-taken
invariant-loop-taken g l = record {
  in_bytes : IsBytes l.fn.chunk;
  within : l.at ≤ length l.fn.chunk;
  size : length l.chunk ≡ length l.fn.chunk;
  kept : drop l.at l.chunk ≡ drop l.at l.fn.chunk;
  room : l.scan.room + l.at ≡ l.fn.scan.room;
  run : (heads : List HeadInfo) × ConsumesPrefix l.fn.scan l.scan l.fn.chunk l.at heads × ListsMore l.fn.format l.fn.output l.output l.fn.lines l.lines heads;
}

abbrev pub decreases-loop-taken : goal.decreases-loop-taken
decreases-loop-taken g l = length l.initial.chunk - l.at
