use Rattle.wsn_events.proofs.ComparedEvents.{differ_once, differ_not_equal}
use Rattle.wsn_events.proofs.laws.law_one_difference.Goals as goal

pub returns : goal.returns
returns c = record { one = differ_once; unequal = differ_not_equal }
