use Rattle.std.proofs.Common.{rules, arith}
use Rattle.std.proofs.lemmas.Grind.{common_steps}
use Rattle.wsn_shown_text.proofs.views.is_printable.Goals as goal

pub loop-b-init : goal.loop-b-init
loop-b-init c = search rules

pub bounds-bytes-b-index : goal.bounds-bytes-b-index
bounds-bytes-b-index c = search rules

pub returns-then-not-matches : goal.returns-then-not-matches
returns-then-not-matches c = grind (arith, common_steps)

pub loop-b-preserved : goal.loop-b-preserved
loop-b-preserved c = grind (arith, common_steps)

pub returns : goal.returns
returns c = grind (arith, common_steps)
