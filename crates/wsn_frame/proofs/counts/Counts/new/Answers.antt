use Rattle.std.proofs.Common.{rules}
use Rattle.wsn_frame.proofs.counts.Counts.new.Goals as goal

pub returns : goal.returns
returns c = search rules
