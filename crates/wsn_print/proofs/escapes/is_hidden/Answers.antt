use Rattle.std.proofs.Common.{rules}
use Rattle.wsn_print.proofs.escapes.is_hidden.Goals as goal

pub returns-in-8203-2 : goal.returns-in-8203-2
returns-in-8203-2 c = search rules

pub returns-in_default : goal.returns-in_default
returns-in_default c = search rules
