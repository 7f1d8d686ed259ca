use Rattle.wsn_rules.proofs.PlanTheory.Faults.{fits_or_fault, not_both, one_fault}
use Rattle.wsn_rules.proofs.faults.law_one_fault.Goals as goal

pub returns : goal.returns
returns c = record {
  some = fits_or_fault;
  not_both = not_both;
  one = one_fault;
}
