use Rattle.std.proofs.Common.{rules}
use Rattle.wsn_io.proofs.input.Input.fail.Goals as goal

pub returns-clause-failed : goal.returns-clause-failed
returns-clause-failed g c = search rules
