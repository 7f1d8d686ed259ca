use Rattle.std.proofs.Common.{rules}
use Rattle.wsn_show.proofs.times.CurrentTime.copy_from.Goals as goal

pub clear-requires : goal.clear-requires
clear-requires c = search rules

pub as_slice-requires : goal.as_slice-requires
as_slice-requires c = search rules

pub add-requires : goal.add-requires
add-requires c = search rules

pub returns-then-other : goal.returns-then-other
returns-then-other c = search rules

pub returns-else-other : goal.returns-else-other
returns-else-other c = search rules
