use Rattle.wsn_capture.proofs.OneAnswer.{has_answer, one_answer}
use Rattle.wsn_capture.proofs.laws.law_one_capture_answer.Goals as goal

pub returns : goal.returns
returns c = record { some = has_answer; one = one_answer }
