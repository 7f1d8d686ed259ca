use Rattle.wsn_text.proofs.Prefixes.{first_bad-append}
use Rattle.wsn_text.proofs.laws.law_first_bad_stays.Goals as goal

pub returns : goal.returns
returns c = first_bad-append
