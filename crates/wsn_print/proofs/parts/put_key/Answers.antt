use Rattle.std.proofs.Common.{rules}
use Rattle.wsn_print.proofs.parts.put_key.Goals as goal

pub returns-in-None-clause-written : goal.returns-in-None-clause-written
returns-in-None-clause-written c = search rules
