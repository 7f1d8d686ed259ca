use Rattle.std.proofs.Common.{rules}
use Rattle.wsn_cli.proofs.request.request_for_people.Goals as goal

pub returns-in-Run-clause-is : goal.returns-in-Run-clause-is
returns-in-Run-clause-is c = search rules
