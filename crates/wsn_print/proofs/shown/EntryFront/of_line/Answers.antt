use Rattle.std.proofs.Common.{rules}
use Rattle.wsn_print.proofs.shown.EntryFront.of_line.Goals as goal

pub returns-clause-time : goal.returns-clause-time
returns-clause-time c = search rules
