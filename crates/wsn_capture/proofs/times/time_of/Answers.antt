use Rattle.std.proofs.Common.{rules}
use Rattle.wsn_capture.proofs.times.time_of.Goals as goal

pub returns : goal.returns
returns c = search rules
