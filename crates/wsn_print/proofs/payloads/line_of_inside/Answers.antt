use Rattle.std.proofs.Common.{rules}
use Rattle.wsn_print.proofs.payloads.line_of_inside.Goals as goal

pub returns : goal.returns
returns c = search rules
