use Rattle.wsn_text.proofs.Decide.{text_decided}
use Rattle.wsn_text.proofs.laws.law_text_is_decided.Goals as goal

pub returns : goal.returns
returns c = text_decided
