use Rattle.std.proofs.Common.{rules}
use Rattle.wsn_cli.proofs.recut_options.key_of.Goals as goal

pub returns-in-Ok : goal.returns-in-Ok
returns-in-Ok c = search rules
