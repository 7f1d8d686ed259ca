use Rattle.std.proofs.Common.{rules}
use Rattle.wsn_print.proofs.escapes.takes_backslash.Goals as goal

pub returns-in-Comment : goal.returns-in-Comment
returns-in-Comment c = search rules
