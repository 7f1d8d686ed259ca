use Rattle.std.proofs.Common.{rules}
use Rattle.wsn_io.proofs.input.Input.read.Goals as goal

pub returns-clause-counted : goal.returns-clause-counted
returns-clause-counted g c = search rules
