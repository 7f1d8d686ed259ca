use Rattle.std.proofs.Common.{arith}
use Rattle.std.proofs.lemmas.Grind.{common_steps}
use Rattle.wsn_cli.proofs.error_words.shown_in_errors.Goals as goal

pub loop-rest-preserved-then-is_negative : goal.loop-rest-preserved-then-is_negative
loop-rest-preserved-then-is_negative c = grind (arith, common_steps)
