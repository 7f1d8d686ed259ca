-- What holds of a plan's steps stays true when a step is pushed.
use Rattle.std.proofs.Common.{◌≡◌, ◌<◌, ◌^◌, Bool, true, List, [], ◌∷◌, ◌++◌, IfSome, arith}
use Rattle.std.specs.Prelude.{if◌then◌else◌}
use Rattle.std.specs.List.{AllByRecursion}
use Rattle.wsn_wire.specs.Frame.{IsKey}
use Rattle.wsn_rules.specs.declared.step.Step.{Step}
use Rattle.wsn_rules.specs.Plan.{IsPlan, key_of, piece_length}
use Rattle.wsn_plan_text.specs.Plans.{HasLengths}

each_pushed : {X : Type 0} → (P : X → Type 0) (xs : List X) (x : X) → AllByRecursion P xs → P x → AllByRecursion P (xs ++ x ∷ [])
each_pushed P [] x all one = (one, tt)
each_pushed P (y ∷ ys) x all one = (all.0, each_pushed P ys x all.1 one)

pub pushed_held : (plan new : List Step) (step : Step) (pushed : Bool) → new ≡ (if pushed then plan ++ step ∷ [] else plan)
    → IsPlan plan × HasLengths plan → IfSome (key_of step) IsKey → piece_length step < 2 ^ 64 → IsPlan new × HasLengths new
pushed_held plan new step pushed is held key small = grind (arith, each_pushed)
