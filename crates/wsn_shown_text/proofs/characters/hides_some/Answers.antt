use Rattle.std.proofs.Common.{rules}
use Rattle.wsn_shown_text.proofs.characters.hides_some.Goals as goal

pub returns-else-bytes-eq0 : goal.returns-else-bytes-eq0
returns-else-bytes-eq0 c = search rules
