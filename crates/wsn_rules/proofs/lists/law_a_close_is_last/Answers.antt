use Rattle.wsn_rules.proofs.LawfulLists.{close_is_last, no_close_before}
use Rattle.wsn_rules.proofs.lists.law_a_close_is_last.Goals as goal

pub returns-clause-last : goal.returns-clause-last
returns-clause-last c = close_is_last

pub returns-clause-before : goal.returns-clause-before
returns-clause-before c = no_close_before
