use Rattle.std.proofs.Common.{rules}
use Rattle.wsn_print.proofs.verdicts.line_of_accepted.Goals as goal

pub returns : goal.returns
returns c = search rules
