use Rattle.std.proofs.Common.{rules}
use Rattle.wsn_cli.proofs.options.check_digits.Goals as goal

pub returns : goal.returns
returns c = search rules
