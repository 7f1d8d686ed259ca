use Rattle.std.proofs.Common.{rules}
use Rattle.wsn_hint.proofs.sent_text.is_line_as_text.Goals as goal

pub returns-then-offset-line : goal.returns-then-offset-line
returns-then-offset-line c = search rules
