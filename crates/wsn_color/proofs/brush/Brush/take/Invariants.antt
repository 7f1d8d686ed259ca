use Rattle.std.proofs.Common.{◌≤◌, ◌-◌, length, take}
use Rattle.wsn_color.specs.Codes.{HasNoEscape}
use Rattle.wsn_color.specs.PaintedText.{Continues}
use Rattle.wsn_color.specs.Painting.{Paints}
use Rattle.wsn_color.proofs.brush.Brush.take.Given as goal

-- The bytes so far are painted, and none is ESC.
abbrev pub invariant-loop-taken : goal.invariant-loop-taken
invariant-loop-taken l = record {
  within : l.taken ≤ length l.bytes;
  escape : HasNoEscape (take l.taken l.bytes);
  paints : Paints l.fn.self.line.is_toned l.fn.queue.items l.fn.self.word.items (take l.taken l.bytes) l.self.line.is_toned l.queue.items l.self.word.items;
  text : Continues l.fn.queue.items l.fn.self.line l.fn.self.word.items (take l.taken l.bytes) l.queue.items l.self.line l.self.word.items;
}

abbrev pub decreases-loop-taken : goal.decreases-loop-taken
decreases-loop-taken l = length l.bytes - l.taken
