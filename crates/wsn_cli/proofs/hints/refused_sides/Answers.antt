use Rattle.std.proofs.Common.{rules}
use Rattle.wsn_cli.proofs.hints.refused_sides.Goals as goal

pub returns-in_default-Report : goal.returns-in_default-Report
returns-in_default-Report c = search rules
