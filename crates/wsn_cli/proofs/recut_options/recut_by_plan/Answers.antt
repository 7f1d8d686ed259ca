use Rattle.std.proofs.Common.{rules}
use Rattle.wsn_cli.proofs.recut_options.recut_by_plan.Goals as goal

pub returns-in-Some-clause-read : goal.returns-in-Some-clause-read
returns-in-Some-clause-read c = search rules
