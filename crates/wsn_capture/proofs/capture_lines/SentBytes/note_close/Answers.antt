use Rattle.std.proofs.Common.{rules}
use Rattle.wsn_capture.proofs.capture_lines.SentBytes.note_close.Goals as goal

pub returns-then-is_none : goal.returns-then-is_none
returns-then-is_none c = search rules

pub returns-else-closed : goal.returns-else-closed
returns-else-closed c = search rules
