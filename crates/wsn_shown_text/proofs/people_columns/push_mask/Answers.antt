use Rattle.std.proofs.Common.{append_assoc}
use Rattle.wsn_shown_text.proofs.people_columns.push_mask.Goals as goal

pub returns-in-Some-clause-text : goal.returns-in-Some-clause-text
returns-in-Some-clause-text c = simp (c.push_hex.ensures.text, c.push.ensures.text, c.in-Some.is, append_assoc)
