use Rattle.std.proofs.Common.{rules}
use Rattle.wsn_cli.proofs.escaped.Escaped.new.Goals as goal

pub returns : goal.returns
returns c = search rules
