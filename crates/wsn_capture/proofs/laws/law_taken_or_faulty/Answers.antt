use Rattle.wsn_capture.proofs.OneFault.{taken_or_faulty, one_first_fault}
use Rattle.wsn_capture.proofs.laws.law_taken_or_faulty.Goals as goal

pub returns : goal.returns
returns c = record {
  either = taken_or_faulty;
  one = one_first_fault;
  not_both = λ limits given line entry fault taken faulty. taken.none fault faulty.held;
}
