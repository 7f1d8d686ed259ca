use Rattle.std.proofs.Common.{sym, rules}
use Rattle.wsn_rules.proofs.OpenOffsets.{none_open}
use Rattle.wsn_show.proofs.OpenMessages.{joined_first}
use Rattle.wsn_show.proofs.message_so_far.MessageSoFar.begin.Goals as goal

pub returns-then-self-eq0-clause-joined : goal.returns-then-self-eq0-clause-joined
returns-then-self-eq0-clause-joined c n fs f op offset kept =
    joined_first (record c.args.self.now { op = c.args.op; offset = c.args.offset }) fs f (none_open fs c.args.self.now.frames kept.frames c.if-self-eq0.true) (sym op) offset

pub returns-else-self-eq0-clause-kept : goal.returns-else-self-eq0-clause-kept
returns-else-self-eq0-clause-kept c = search rules
