use Rattle.wsn_text.proofs.Prefixes.{bad_ends}
use Rattle.wsn_text.proofs.laws.law_first_bad_ends.Goals as goal

pub returns : goal.returns
returns c = bad_ends
