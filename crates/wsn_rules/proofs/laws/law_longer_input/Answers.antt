use Rattle.wsn_rules.proofs.OneVerdict.{longer_goes_on, all_go_on, all_of_verdict}
use Rattle.wsn_rules.proofs.laws.law_longer_input.Goals as goal

pub returns-clause-verdicts : goal.returns-clause-verdicts
returns-clause-verdicts c = longer_goes_on

pub returns-clause-lawful_front : goal.returns-clause-lawful_front
returns-clause-lawful_front c = λ role limits bytes rest fs gs verdict lawful whole is. all_go_on role limits bytes fs gs rest lawful whole (all_of_verdict role limits bytes gs verdict is)
