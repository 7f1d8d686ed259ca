use Rattle.std.proofs.Common.{[], ◌∷◌}
use Rattle.std.proofs.lemmas.List.{map-append}
use Rattle.wsn_rules.specs.Recut.{step_of}
use Rattle.wsn_rules.proofs.recuts.law_plan_goes_on.Goals as goal

pub returns : goal.returns
returns c = λ fs f. map-append step_of fs (f ∷ [])
