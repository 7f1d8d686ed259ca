use Rattle.std.proofs.Common.{rules}
use Rattle.wsn_color.proofs.layout.Layout.counts_empty.Goals as goal

pub returns : goal.returns
returns c = search rules
