use Rattle.std.proofs.Common.{rules}
use Rattle.wsn_show.proofs.stream_parts.StreamParts.end_so_far.Goals as goal

pub returns : goal.returns
returns c = search rules
