use Rattle.wsn_events.proofs.WholeNormalForms.{twice}
use Rattle.wsn_events.proofs.laws.law_normalising_twice.Goals as goal

pub returns : goal.returns
returns c = λ role limits all before after summary range normalised. twice role limits range all before after summary normalised
