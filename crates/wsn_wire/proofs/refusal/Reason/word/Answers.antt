use Rattle.std.proofs.Common.{rules}
use Rattle.wsn_wire.proofs.refusal.Reason.word.Goals as goal

pub returns-in-CloseCode : goal.returns-in-CloseCode
returns-in-CloseCode c = search rules
