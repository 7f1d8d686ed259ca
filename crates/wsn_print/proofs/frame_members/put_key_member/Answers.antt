use Rattle.std.proofs.Common.{rules, append_assoc}
use Rattle.wsn_print.proofs.frame_members.put_key_member.Goals as goal

pub returns-in-Some-clause-written : goal.returns-in-Some-clause-written
returns-in-Some-clause-written c = search (rules, append_assoc)
