use Rattle.std.proofs.Common.{rules}
use Rattle.wsn_io.proofs.input.Input.failed.Goals as goal

pub returns : goal.returns
returns c = search rules
