use Rattle.std.proofs.Common.{rules}
use Rattle.wsn_shown_text.proofs.fields.push_end_mark.Goals as goal

pub returns : goal.returns
returns c = search rules
