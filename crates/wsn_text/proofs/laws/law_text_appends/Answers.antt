use Rattle.wsn_text.proofs.Prefixes.{text-append}
use Rattle.wsn_text.proofs.laws.law_text_appends.Goals as goal

pub returns : goal.returns
returns c = text-append
