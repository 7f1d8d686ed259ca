use Rattle.wsn_rules.proofs.OneVerdict.{all_of_verdict}
use Rattle.wsn_rules.proofs.laws.law_frames_of_a_verdict.Goals as goal

pub returns-clause-lawful : goal.returns-clause-lawful
returns-clause-lawful c = λ role limits bytes fs verdict is. (all_of_verdict role limits bytes fs verdict is).lawful

pub returns-clause-prefix : goal.returns-clause-prefix
returns-clause-prefix c = λ role limits bytes fs verdict is. let all = all_of_verdict role limits bytes fs verdict is in (all.rest, all.whole)
