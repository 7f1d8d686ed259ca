use Rattle.std.proofs.Common.{rules}
use Rattle.wsn_print.proofs.escapes.with_bits.Goals as goal

pub returns : goal.returns
returns c = search rules
