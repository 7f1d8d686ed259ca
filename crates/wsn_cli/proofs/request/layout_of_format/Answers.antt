use Rattle.std.proofs.Common.{rules}
use Rattle.wsn_cli.proofs.request.layout_of_format.Goals as goal

pub returns-in-Json : goal.returns-in-Json
returns-in-Json c = search rules
