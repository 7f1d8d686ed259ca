use Rattle.wsn_plan.proofs.Restored.{restored}
use Rattle.wsn_plan.proofs.laws.law_restored.Goals as goal

pub returns : goal.returns
returns g c = λ role limits all plan verdict before after range planned normalised. restored role limits range all plan verdict before after g.row.A.Denot planned normalised
