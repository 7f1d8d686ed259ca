use Rattle.std.proofs.Common.{rules}
use Rattle.wsn_cli.proofs.request.job_for_people.Goals as goal

pub returns-in-ShowStream-clause-is : goal.returns-in-ShowStream-clause-is
returns-in-ShowStream-clause-is c = search rules
