use Rattle.std.proofs.Common.{rules}
use Rattle.wsn_cli.proofs.request.format_for_people.Goals as goal

pub returns-in-Json : goal.returns-in-Json
returns-in-Json c = search rules
