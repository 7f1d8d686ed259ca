use Rattle.std.proofs.Common.{rules}
use Rattle.wsn_print.proofs.held_text.HeldText.add_mark.Goals as goal

pub returns : goal.returns
returns c = search rules
