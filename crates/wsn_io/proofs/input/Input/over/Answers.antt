use Rattle.std.proofs.Common.{rules}
use Rattle.wsn_io.proofs.input.Input.over.Goals as goal

pub returns-clause-count : goal.returns-clause-count
returns-clause-count g c = search rules
