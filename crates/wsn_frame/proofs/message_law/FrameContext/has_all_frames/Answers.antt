use Rattle.std.proofs.Common.{rules}
use Rattle.wsn_frame.proofs.message_law.FrameContext.has_all_frames.Goals as goal

pub returns-in-Some : goal.returns-in-Some
returns-in-Some c = search rules

pub returns-in-None : goal.returns-in-None
returns-in-None c = search rules
