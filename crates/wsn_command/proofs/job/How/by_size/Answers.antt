use Rattle.std.proofs.Common.{rules}
use Rattle.wsn_command.proofs.job.How.by_size.Goals as goal

pub returns : goal.returns
returns g c = record { may = search rules; how = search rules; none = search rules }

pub returns-in-Server-Some-clause-none : goal.returns-in-Server-Some-clause-none
returns-in-Server-Some-clause-none g c = search rules

pub returns-then-size-eq0-clause-none : goal.returns-then-size-eq0-clause-none
returns-then-size-eq0-clause-none g c = search rules
