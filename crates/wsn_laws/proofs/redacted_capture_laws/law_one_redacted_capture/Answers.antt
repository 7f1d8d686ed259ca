use Rattle.wsn_laws.proofs.OneRedactedCapture.{one_capture, capture_size}
use Rattle.wsn_laws.proofs.EveryRedactedCapture.{some_capture}
use Rattle.wsn_laws.proofs.redacted_capture_laws.law_one_redacted_capture.Goals as goal

pub returns : goal.returns
returns c = record {
  some = some_capture;
  one = one_capture;
  size = capture_size;
}
