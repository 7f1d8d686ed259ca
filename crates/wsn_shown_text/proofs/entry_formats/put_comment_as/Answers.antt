use Rattle.std.proofs.Common.{arith}
use Rattle.std.proofs.lemmas.Grind.{moves}
use Rattle.wsn_shown_text.proofs.entry_formats.put_comment_as.Goals as goal

pub returns-in-Json : goal.returns-in-Json
returns-in-Json g c = grind (arith, moves) steps 2000000
