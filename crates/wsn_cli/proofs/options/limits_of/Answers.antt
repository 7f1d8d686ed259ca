use Rattle.std.proofs.Common.{rules}
use Rattle.wsn_cli.proofs.options.limits_of.Goals as goal

pub returns-in-Some-clause-read : goal.returns-in-Some-clause-read
returns-in-Some-clause-read c = search rules

pub returns-in-None-clause-read : goal.returns-in-None-clause-read
returns-in-None-clause-read c = search rules
