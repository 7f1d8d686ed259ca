use Rattle.std.proofs.Common.{rules}
use Rattle.wsn_hint.proofs.accusations.accusing_hint_of.Goals as goal

pub returns-in-Some : goal.returns-in-Some
returns-in-Some c = search rules
