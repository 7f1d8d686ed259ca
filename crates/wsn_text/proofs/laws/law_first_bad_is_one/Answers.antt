use Rattle.wsn_text.proofs.Prefixes.{first_bad_unique}
use Rattle.wsn_text.proofs.laws.law_first_bad_is_one.Goals as goal

pub returns : goal.returns
returns c = first_bad_unique
