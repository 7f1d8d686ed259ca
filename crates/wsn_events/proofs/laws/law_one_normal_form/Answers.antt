use Rattle.wsn_events.proofs.WholeNormalForms.{one_normal_form}
use Rattle.wsn_events.proofs.laws.law_one_normal_form.Goals as goal

pub returns : goal.returns
returns c = λ role limits all before after other_before other_after result other says also one two. one_normal_form role limits all before after other_before other_after result other says also one two
