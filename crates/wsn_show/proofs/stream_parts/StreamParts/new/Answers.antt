use Rattle.std.proofs.Common.{refl}
use Rattle.wsn_show.proofs.stream_parts.StreamParts.new.Goals as goal

pub returns : goal.returns
returns c n enough = record {
  message = c.new.ensures n enough;
  joined = tt;
  frame = record { offset = refl; size = refl; head = refl; begun = c.new-2.ensures; last = c.new-3.ensures };
}
