use Rattle.std.proofs.Common.{rules}
use Rattle.wsn_print.proofs.kept_digits.KeptDigits.put.Goals as goal

pub returns-clause-written : goal.returns-clause-written
returns-clause-written c = search rules
