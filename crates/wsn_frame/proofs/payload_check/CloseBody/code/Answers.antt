use Rattle.std.proofs.Common.{rules}
use Rattle.wsn_frame.proofs.payload_check.CloseBody.code.Goals as goal

pub returns-in-Code : goal.returns-in-Code
returns-in-Code c = search rules

pub returns-in-Empty : goal.returns-in-Empty
returns-in-Empty c = search rules
