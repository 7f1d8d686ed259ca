use Rattle.std.proofs.Common.{rules}
use Rattle.wsn_cli.proofs.options.file_of.Goals as goal

pub returns-in_ok-from_str-in-Some : goal.returns-in_ok-from_str-in-Some
returns-in_ok-from_str-in-Some c = search rules
