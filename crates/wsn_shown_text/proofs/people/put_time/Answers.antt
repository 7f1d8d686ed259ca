use Rattle.std.proofs.Common.{rules}
use Rattle.wsn_shown_text.proofs.people.put_time.Goals as goal

pub returns-in-Stream : goal.returns-in-Stream
returns-in-Stream g c = search rules
