use Rattle.std.proofs.Common.{rules}
use Rattle.wsn_wire.proofs.refusal.Reason.code.Goals as goal

pub returns-in-MessageTooBig : goal.returns-in-MessageTooBig
returns-in-MessageTooBig c = search rules

pub returns-in-TooManyFrames : goal.returns-in-TooManyFrames
returns-in-TooManyFrames c = search rules

pub returns-in_default : goal.returns-in_default
returns-in_default c = search rules

pub returns-in-CloseReason : goal.returns-in-CloseReason
returns-in-CloseReason c = search rules

pub returns-in-CloseReason-2 : goal.returns-in-CloseReason-2
returns-in-CloseReason-2 c = search rules

pub returns-in-CloseReason-3 : goal.returns-in-CloseReason-3
returns-in-CloseReason-3 c = search rules
