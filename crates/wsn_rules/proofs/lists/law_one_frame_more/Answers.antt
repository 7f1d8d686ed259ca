use Rattle.wsn_rules.proofs.LawfulLists.{lawful_push, came_on}
use Rattle.wsn_rules.proofs.lists.law_one_frame_more.Goals as goal

pub returns-clause-goes_on : goal.returns-clause-goes_on
returns-clause-goes_on c = lawful_push

pub returns-clause-came_on : goal.returns-clause-came_on
returns-clause-came_on c = came_on
