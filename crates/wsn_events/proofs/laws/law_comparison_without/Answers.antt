use Rattle.std.proofs.Common.{rules}
use Rattle.wsn_rules.specs.LeftOut.{events_without}
use Rattle.wsn_events.proofs.NothingLeftOut.{comparison_of_all}
use Rattle.wsn_events.proofs.WholeComparisons.{one_answer}
use Rattle.wsn_events.proofs.laws.law_comparison_without.Goals as goal

pub returns : goal.returns
returns c = record { one = λ without role limits. one_answer role limits (events_without without); nothing = comparison_of_all; equal = search rules }
