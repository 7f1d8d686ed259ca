use Rattle.std.proofs.Common.{rules}
use Rattle.wsn_c.proofs.recutting.recut_by.Goals as goal

pub returns-in-Err : goal.returns-in-Err
returns-in-Err c = search rules
