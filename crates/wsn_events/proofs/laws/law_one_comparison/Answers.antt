use Rattle.wsn_rules.specs.SameMeaning.{all_events}
use Rattle.wsn_events.proofs.WholeComparisons.{one_answer}
use Rattle.wsn_events.proofs.laws.law_one_comparison.Goals as goal

pub returns : goal.returns
returns c role limits = one_answer role limits all_events
