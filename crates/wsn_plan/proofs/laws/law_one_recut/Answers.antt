use Rattle.wsn_plan.proofs.OneRecut.{one_recut}
use Rattle.wsn_plan.proofs.laws.law_one_recut.Goals as goal

pub returns : goal.returns
returns c = λ role limits planned all before after other_before other_after result other sound also_sound says also one two.
    one_recut role limits planned all before after other_before other_after sound also_sound result other says also one two
