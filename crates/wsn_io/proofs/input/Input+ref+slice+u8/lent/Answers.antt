use Rattle.std.proofs.Common.{rules}
use Rattle.wsn_io.proofs.input.Input+ref+slice+u8.lent.Goals as goal

pub returns-clause-lent : goal.returns-clause-lent
returns-clause-lent c = search rules
