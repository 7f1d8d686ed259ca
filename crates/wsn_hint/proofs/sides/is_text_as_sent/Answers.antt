use Rattle.std.proofs.Common.{rules}
use Rattle.wsn_hint.proofs.sides.is_text_as_sent.Goals as goal

pub returns-in-Some : goal.returns-in-Some
returns-in-Some c = search rules
