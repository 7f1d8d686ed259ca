use Rattle.std.proofs.Common.{refl, [], ◌∷◌}
use Rattle.wsn_wire.specs.declared.endpoint.Role.TheVariants.{Client, Server}
use Rattle.wsn_wire.specs.declared.length_encoding.Form.TheVariants.{Shortest}
use Rattle.wsn_rules.specs.declared.step.Step.TheVariants.{Last, Control}
use Rattle.wsn_rules.specs.declared.why.Why.TheVariants.{KeyMismatch}
use Rattle.wsn_rules.specs.Examples.{greatest}
use Rattle.wsn_laws.specs.PlanExamples.{bare_last, bare_control, zeros, ping_and_hello}
use Rattle.wsn_laws.proofs.ComputedFaults.{decoded, is_fault, does_fit}
use Rattle.wsn_laws.proofs.fault_examples.keys.Goals as goal

pub returns : goal.returns
unfolding decoded
returns c = record {
  server = is_fault Server greatest ping_and_hello (Control zeros ∷ []) 0 KeyMismatch refl refl;
  client = is_fault Client greatest ping_and_hello (bare_control ∷ []) 0 KeyMismatch refl refl;
  later = is_fault Client greatest ping_and_hello (Control zeros ∷ bare_last ∷ []) 1 KeyMismatch refl refl;
  first = is_fault Client greatest [] (bare_last ∷ []) 0 KeyMismatch refl refl;
  near = does_fit Client greatest ping_and_hello (Control zeros ∷ Last zeros Shortest ∷ []) refl refl;
}
