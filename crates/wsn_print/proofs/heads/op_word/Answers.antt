use Rattle.std.proofs.Common.{rules}
use Rattle.wsn_print.proofs.heads.op_word.Goals as goal

pub returns-in-Ping-clause-word : goal.returns-in-Ping-clause-word
returns-in-Ping-clause-word c = search rules
