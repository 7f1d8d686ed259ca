use Rattle.std.proofs.Common.{◌≡◌, ◌+◌, ◌-◌, ◌≤◌, List, length, drop}
use Rattle.wsn_wire.specs.Frame.{IsBytes}
use Rattle.wsn_rules.specs.declared.head_info.HeadInfo.{HeadInfo}
use Rattle.wsn_print.specs.Formats.{heads_text}
use Rattle.wsn_scan.specs.Feeding.{ConsumesPrefix}
use Rattle.wsn_parts.specs.Listing.{PrintsHeld}
use Rattle.wsn_parts.proofs.listing.list_chunk.Given as goal

-- The scan has consumed the chunk so far, the heads that it took were printed or are held, and the rest of the chunk is
-- unchanged.
abbrev pub invariant-loop-at : goal.invariant-loop-at
invariant-loop-at g l = record {
  in_bytes : IsBytes l.fn.chunk;
  within : l.at ≤ length l.fn.chunk;
  size : length l.chunk ≡ length l.fn.chunk;
  kept : drop l.at l.chunk ≡ drop l.at l.fn.chunk;
  room : l.scan.room + l.at ≡ l.fn.scan.room;
  run : (heads : List HeadInfo) × ConsumesPrefix l.fn.scan l.scan l.fn.chunk l.at heads × PrintsHeld l.fn.output l.output (heads_text l.fn.format heads) l.lines;
}

abbrev pub decreases-loop-at : goal.decreases-loop-at
decreases-loop-at g l = length l.initial.chunk - l.at
