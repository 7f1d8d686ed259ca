use Rattle.wsn_text.proofs.Prefixes.{begins_or_first_bad}
use Rattle.wsn_text.proofs.laws.law_begins_or_first_bad.Goals as goal

pub returns : goal.returns
returns c = begins_or_first_bad
