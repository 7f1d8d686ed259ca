use Rattle.std.proofs.Common.{refl}
use Rattle.wsn_rules.proofs.PlanTheory.RecutGoesOn.{op_after_others}
use Rattle.wsn_rules.proofs.recuts.law_opcodes_of_a_message.Goals as goal

pub returns-clause-first : goal.returns-clause-first
returns-clause-first c = λ kind. refl

pub returns-clause-others : goal.returns-clause-others
returns-clause-others c = op_after_others
