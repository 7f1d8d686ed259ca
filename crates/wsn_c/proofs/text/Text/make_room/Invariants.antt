use Rattle.std.proofs.Common.{◌≡◌}
use Rattle.wsn_c.proofs.text.Text.make_room.Given as goal

-- The text stays.
abbrev pub invariant-loop-more : goal.invariant-loop-more
invariant-loop-more g l = l.self-inside.bytes.items ≡ l.fn.self

abbrev pub decreases-loop-more : goal.decreases-loop-more
decreases-loop-more g l = l.more
