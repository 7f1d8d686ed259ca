use Rattle.std.proofs.Common.{rules}
use Rattle.wsn_cli.proofs.request.Request.layout.Goals as goal

pub returns-in-Help : goal.returns-in-Help
returns-in-Help c = search rules
