use Rattle.std.proofs.Common.{rules}
use Rattle.wsn_cli.proofs.options.role_of.Goals as goal

pub returns-in-Some-server : goal.returns-in-Some-server
returns-in-Some-server c = search rules
