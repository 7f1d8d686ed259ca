use Rattle.std.proofs.Common.{rules}
use Rattle.wsn_print.proofs.statuses.status_of_outcome.Goals as goal

pub returns-in-Clean : goal.returns-in-Clean
returns-in-Clean c = search rules

pub returns-in-Failed : goal.returns-in-Failed
returns-in-Failed c = search rules
