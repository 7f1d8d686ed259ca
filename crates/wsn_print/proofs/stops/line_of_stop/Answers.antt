use Rattle.std.proofs.Common.{rules}
use Rattle.wsn_print.proofs.stops.line_of_stop.Goals as goal

pub returns : goal.returns
returns c = search rules
