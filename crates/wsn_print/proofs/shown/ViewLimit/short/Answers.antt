use Rattle.std.proofs.Common.{rules}
use Rattle.wsn_print.proofs.shown.ViewLimit.short.Goals as goal

pub returns : goal.returns
returns c = search rules
