use Rattle.std.proofs.Common.{refl, [], ◌∷◌}
use Rattle.wsn_wire.specs.declared.endpoint.Role.TheVariants.{Server}
use Rattle.wsn_wire.specs.declared.opcode.Op.TheVariants.{Ping}
use Rattle.wsn_rules.specs.declared.why.Why.TheVariants.{StepsLeft, NoMessage, NotAControl, NotAMessage, EventsLeft}
use Rattle.wsn_rules.specs.Meaning.{Message}
use Rattle.wsn_rules.specs.Meaning as meant
use Rattle.wsn_rules.specs.Examples.{greatest}
use Rattle.wsn_laws.specs.PlanExamples.{bare_piece, bare_last, bare_control, ping_and_hello}
use Rattle.wsn_laws.proofs.ComputedFaults.{decoded, is_fault, does_fit}
use Rattle.wsn_laws.proofs.fault_examples.ends.Goals as goal

pub returns : goal.returns
unfolding decoded
returns c = record {
  not_a_message = is_fault Server greatest ping_and_hello (bare_last ∷ []) 0 NotAMessage refl refl;
  not_a_control = is_fault Server greatest ping_and_hello (bare_control ∷ bare_control ∷ []) 1 NotAControl refl refl;
  in_pieces = is_fault Server greatest ping_and_hello (bare_control ∷ bare_piece 1 ∷ bare_control ∷ []) 2 NotAControl refl refl;
  steps_left = is_fault Server greatest ping_and_hello (bare_control ∷ bare_last ∷ bare_last ∷ []) 2 StepsLeft refl refl;
  piece_left = is_fault Server greatest ping_and_hello (bare_control ∷ bare_last ∷ bare_piece 0 ∷ []) 2 StepsLeft refl refl;
  no_message = is_fault Server greatest (meant.Control Ping [] ∷ []) (bare_last ∷ []) 0 NoMessage refl refl;
  no_piece = is_fault Server greatest (meant.Control Ping [] ∷ []) (bare_piece 0 ∷ []) 0 NoMessage refl refl;
  none_of_two = is_fault Server greatest ping_and_hello [] 0 EventsLeft refl refl;
  one_of_two = is_fault Server greatest ping_and_hello (bare_control ∷ []) 1 EventsLeft refl refl;
  unended = is_fault Server greatest ping_and_hello (bare_control ∷ bare_piece 5 ∷ []) 2 EventsLeft refl refl;
  near = does_fit Server greatest ping_and_hello (bare_control ∷ bare_last ∷ []) refl refl;
  nothing = does_fit Server greatest [] [] refl refl;
}
