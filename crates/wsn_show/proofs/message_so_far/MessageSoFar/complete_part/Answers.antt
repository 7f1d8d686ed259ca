use Rattle.std.proofs.Common.{rules}
use Rattle.wsn_show.proofs.message_so_far.MessageSoFar.complete_part.Goals as goal

pub returns-clause-bytes : goal.returns-clause-bytes
returns-clause-bytes c = search rules
