use Rattle.wsn_plan_text.proofs.TextFaults.{one_plan}
use Rattle.wsn_plan_text.proofs.WrittenLines.{text_encodes_plan}
use Rattle.wsn_plan_text.proofs.laws.law_one_plan.Goals as goal

pub returns : goal.returns
returns c = record { one = one_plan; written = text_encodes_plan }
