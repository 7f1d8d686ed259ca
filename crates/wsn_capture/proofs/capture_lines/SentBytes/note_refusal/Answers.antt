use Rattle.std.proofs.Common.{rules}
use Rattle.wsn_capture.proofs.capture_lines.SentBytes.note_refusal.Goals as goal

pub returns-then-is_none : goal.returns-then-is_none
returns-then-is_none c = record { same = search rules; noted = search rules }

pub returns-else-is_none : goal.returns-else-is_none
returns-else-is_none c = record { same = search rules; noted = search rules }
