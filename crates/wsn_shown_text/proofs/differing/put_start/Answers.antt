use Rattle.std.proofs.Common.{rules}
use Rattle.wsn_shown_text.proofs.differing.put_start.Goals as goal

pub returns-in-Line-clause-text : goal.returns-in-Line-clause-text
returns-in-Line-clause-text g c = search rules
