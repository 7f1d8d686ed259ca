use Rattle.wsn_rules.proofs.PlanTheory.Walked.{walked_start, walked_piece, walked_last, walked_control, walked_fault, walked_events_left, walked_fits, walked_pending, walked_nothing}
use Rattle.wsn_rules.proofs.faults.law_fault_step_by_step.Goals as goal

pub returns : goal.returns
returns c = record {
  start = walked_start;
  piece = walked_piece;
  last = walked_last;
  control = walked_control;
  fault = walked_fault;
  events_left = walked_events_left;
  fits = walked_fits;
  pending = walked_pending;
  nothing_pending = walked_nothing;
}
