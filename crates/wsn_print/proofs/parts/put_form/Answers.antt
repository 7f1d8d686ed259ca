use Rattle.std.proofs.Common.{rules}
use Rattle.wsn_print.proofs.parts.put_form.Goals as goal

pub returns-in-Two-clause-written : goal.returns-in-Two-clause-written
returns-in-Two-clause-written c = search rules
