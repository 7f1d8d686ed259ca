use Rattle.wsn_laws.proofs.Fields.{one_line}
use Rattle.wsn_laws.proofs.object_laws.law_one_value.Goals as goal

pub returns : goal.returns
returns c = one_line
