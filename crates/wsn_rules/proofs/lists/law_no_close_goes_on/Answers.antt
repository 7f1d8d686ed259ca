use Rattle.wsn_rules.proofs.LawfulLists.{no_close_nil, no_close_push, no_close_front}
use Rattle.wsn_rules.proofs.lists.law_no_close_goes_on.Goals as goal

pub returns : goal.returns
returns c = record {
  none = no_close_nil;
  one_more = no_close_push;
  prefix = no_close_front;
}
