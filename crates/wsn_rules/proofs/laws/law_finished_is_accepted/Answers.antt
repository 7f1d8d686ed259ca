use Rattle.wsn_rules.proofs.LawfulLists.{finished_is_accepted}
use Rattle.wsn_rules.proofs.laws.law_finished_is_accepted.Goals as goal

pub returns : goal.returns
returns c = finished_is_accepted
