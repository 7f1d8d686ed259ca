use Rattle.std.proofs.Common.{rules}
use Rattle.wsn_frame.proofs.message_law.FrameContext.is_too_big.Goals as goal

pub returns-in-Close : goal.returns-in-Close
returns-in-Close c = search rules

pub returns-in-Continue : goal.returns-in-Continue
returns-in-Continue c = search rules
