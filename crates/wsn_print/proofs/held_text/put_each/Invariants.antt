use Rattle.std.proofs.Common.{◌≡◌, ◌≤◌, ◌+◌, ◌*◌, ◌++◌, length, take}
use Rattle.std.specs.Prelude.{flat_map}
use Rattle.wsn_print.specs.Runs.{escaped_byte}
use Rattle.wsn_print.proofs.held_text.put_each.Given as goal

-- The bytes so far are written.
abbrev pub invariant-loop-byte : goal.invariant-loop-byte
invariant-loop-byte l = record {
  size : length l.text ≡ length l.fn.text;
  within : l.at ≤ l.fn.start + 2 * l.byte-index;
  written : take l.at l.text ≡ take l.fn.start l.fn.text ++ flat_map (escaped_byte l.fn.escapes) (take l.byte-index l.bytes);
}
