use Rattle.wsn_rules.proofs.OneVerdict.{same_bytes}
use Rattle.wsn_rules.proofs.lists.law_bytes_determine_frames.Goals as goal

pub returns : goal.returns
returns c = same_bytes
