use Rattle.std.proofs.Common.{rules}
use Rattle.wsn_print.proofs.faults.line_of_line_fault.Goals as goal

pub returns : goal.returns
returns c = search rules
