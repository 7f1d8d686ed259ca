use Rattle.wsn_text.proofs.Prefixes.{begins_front}
use Rattle.wsn_text.proofs.laws.law_prefixes_begin_text.Goals as goal

pub returns : goal.returns
returns c = begins_front
