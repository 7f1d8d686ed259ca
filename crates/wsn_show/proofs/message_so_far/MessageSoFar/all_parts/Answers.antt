use Rattle.std.proofs.Common.{rules}
use Rattle.wsn_show.proofs.message_so_far.MessageSoFar.all_parts.Goals as goal

pub returns-clause-frames : goal.returns-clause-frames
returns-clause-frames c = search rules
