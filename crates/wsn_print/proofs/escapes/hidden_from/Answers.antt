use Rattle.std.proofs.Common.{rules}
use Rattle.wsn_print.proofs.escapes.hidden_from.Goals as goal

pub returns-else-least-number : goal.returns-else-least-number
returns-else-least-number c = search rules
