use Rattle.std.proofs.Common.{rules}
use Rattle.wsn_shown_text.proofs.seen.put_seen_after.Goals as goal

pub returns-in-Text : goal.returns-in-Text
returns-in-Text g c = search rules
