use Rattle.wsn_plan_text.proofs.EncodedLines.{one_step}
use Rattle.wsn_plan_text.proofs.LineFaults.{one_line_fault, not_step_and_fault}
use Rattle.wsn_plan_text.proofs.DecidedLines.{step_or_fault}
use Rattle.wsn_plan_text.proofs.TextFaults.{plan_or_fault, one_first_fault, not_plan_and_fault}
use Rattle.wsn_plan_text.proofs.laws.law_one_line_fault.Goals as goal

pub returns : goal.returns
returns c = record {
  line = step_or_fault;
  one_step = one_step;
  one_fault = one_line_fault;
  not_both = not_step_and_fault;
  text = plan_or_fault;
  one_first_fault = one_first_fault;
  not_both_of_a_text = not_plan_and_fault;
}
