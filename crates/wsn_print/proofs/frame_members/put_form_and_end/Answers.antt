use Rattle.std.proofs.Common.{rules}
use Rattle.wsn_print.proofs.frame_members.put_form_and_end.Goals as goal

pub returns-in-Two-clause-written : goal.returns-in-Two-clause-written
returns-in-Two-clause-written c = search rules
