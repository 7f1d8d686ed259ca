use Rattle.std.proofs.Common.{rules}
use Rattle.wsn_capture.proofs.capture_lines.SentBytes.take_room.Goals as goal

pub returns-then-count-self-clause-over : goal.returns-then-count-self-clause-over
returns-then-count-self-clause-over c = search rules

pub overflow_sub-self : goal.overflow_sub-self
overflow_sub-self c = search rules

pub returns-clause-taken : goal.returns-clause-taken
returns-clause-taken c = search rules
