use Rattle.std.proofs.Common.{rules}
use Rattle.wsn_cli.proofs.options.color_of.Goals as goal

pub returns-in-Some-always : goal.returns-in-Some-always
returns-in-Some-always c = search rules
