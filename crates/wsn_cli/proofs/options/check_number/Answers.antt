use Rattle.std.proofs.Common.{rules}
use Rattle.wsn_cli.proofs.options.check_number.Goals as goal

pub returns-then-are_digits : goal.returns-then-are_digits
returns-then-are_digits c = search rules
