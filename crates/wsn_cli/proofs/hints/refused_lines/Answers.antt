use Rattle.std.proofs.Common.{rules}
use Rattle.wsn_cli.proofs.hints.refused_lines.Goals as goal

pub returns-in-Report : goal.returns-in-Report
returns-in-Report c = search rules
