use Rattle.wsn_rules.proofs.Groups.{unfinished_control, unfinished_final, unfinished_more}
use Rattle.wsn_rules.proofs.lists.law_unfinished_goes_on.Goals as goal

pub returns : goal.returns
returns c = record {
  control = unfinished_control;
  ended = unfinished_final;
  went_on = unfinished_more;
}
