use Rattle.std.proofs.Common.{rules}
use Rattle.wsn_shown_text.proofs.people_views.put_people_shown.Goals as goal

pub returns-in-Text : goal.returns-in-Text
returns-in-Text g c = search rules
