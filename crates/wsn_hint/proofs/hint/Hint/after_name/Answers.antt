use Rattle.std.proofs.Common.{rules}
use Rattle.wsn_hint.proofs.hint.Hint.after_name.Goals as goal

pub returns-in-Capture : goal.returns-in-Capture
returns-in-Capture c = search rules
