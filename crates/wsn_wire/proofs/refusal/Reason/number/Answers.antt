use Rattle.std.proofs.Common.{rules}
use Rattle.wsn_wire.proofs.refusal.Reason.number.Goals as goal

pub returns-in-TextCut : goal.returns-in-TextCut
returns-in-TextCut c = search rules
