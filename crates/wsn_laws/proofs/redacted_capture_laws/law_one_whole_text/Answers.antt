use Rattle.wsn_laws.proofs.OneWholeText.{one_whole_text}
use Rattle.wsn_laws.proofs.redacted_capture_laws.law_one_whole_text.Goals as goal

pub returns : goal.returns
returns c = one_whole_text
