use Rattle.wsn_laws.proofs.OneRedactedCapture.{one_nothing}
use Rattle.wsn_laws.proofs.redacted_capture_laws.law_one_redacted_comment.Goals as goal

pub returns : goal.returns
returns c = one_nothing
