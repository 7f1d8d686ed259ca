use Rattle.std.proofs.Common.{rules}
use Rattle.wsn_io.proofs.output.Output.into_writer.Goals as goal

pub returns : goal.returns
returns g c = search rules
