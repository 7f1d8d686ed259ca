use Rattle.std.proofs.Common.{rules}
use Rattle.wsn_show.proofs.times.CurrentTime.take.Goals as goal

pub returns-clause-given : goal.returns-clause-given
returns-clause-given c = search rules
