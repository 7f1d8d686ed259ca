use Rattle.std.proofs.Common.{append_assoc}
use Rattle.wsn_shown_text.proofs.people_views.push_place.Goals as goal

pub returns-clause-text : goal.returns-clause-text
returns-clause-text c = simp (c.push-2.ensures.text, c.push_number.ensures.text, c.push.ensures.text, append_assoc)
