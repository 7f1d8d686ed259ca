use Rattle.std.proofs.Common.{rules}
use Rattle.wsn_cli.proofs.options.entries_of.Goals as goal

pub returns-in-Some-lines : goal.returns-in-Some-lines
returns-in-Some-lines c = search rules
