use Rattle.std.proofs.Common.{rules}
use Rattle.wsn_print.proofs.frame_members.put_fin.Goals as goal

pub returns-else-fin-clause-written : goal.returns-else-fin-clause-written
returns-else-fin-clause-written c = search rules
