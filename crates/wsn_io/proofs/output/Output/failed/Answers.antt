use Rattle.std.proofs.Common.{rules}
use Rattle.wsn_io.proofs.output.Output.failed.Goals as goal

pub returns : goal.returns
returns c = search rules
