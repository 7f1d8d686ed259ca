use Rattle.std.proofs.Common.{rules}
use Rattle.wsn_print.proofs.comparisons.line_of_difference.Goals as goal

pub returns : goal.returns
returns c = search rules
