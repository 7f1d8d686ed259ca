use Rattle.std.proofs.Common.{rules}
use Rattle.wsn_io.proofs.output.Output.new.Goals as goal

pub returns-clause-failed : goal.returns-clause-failed
returns-clause-failed g c = search rules

pub returns-clause-written : goal.returns-clause-written
returns-clause-written c = search rules
