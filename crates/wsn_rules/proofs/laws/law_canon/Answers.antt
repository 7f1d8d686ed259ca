use Rattle.wsn_rules.proofs.NormalLaws.{normal_form_iff, inputs_iff}
use Rattle.wsn_rules.proofs.laws.law_canon.Goals as goal

pub returns-clause-events : goal.returns-clause-events
returns-clause-events c = normal_form_iff

pub returns-clause-inputs : goal.returns-clause-inputs
returns-clause-inputs c = inputs_iff
