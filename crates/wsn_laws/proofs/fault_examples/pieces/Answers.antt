use Rattle.std.proofs.Common.{refl, [], ◌∷◌}
use Rattle.wsn_wire.specs.declared.endpoint.Role.TheVariants.{Server}
use Rattle.wsn_rules.specs.declared.why.Why.TheVariants.{PieceTooLong}
use Rattle.wsn_rules.specs.Examples.{greatest}
use Rattle.wsn_laws.specs.PlanExamples.{bare_piece, bare_last, bare_control, ping_and_hello, two_letters}
use Rattle.wsn_laws.proofs.ComputedFaults.{decoded, is_fault, does_fit}
use Rattle.wsn_laws.proofs.fault_examples.pieces.Goals as goal

pub returns : goal.returns
unfolding decoded
returns c = record {
  alone = is_fault Server greatest ping_and_hello (bare_piece 6 ∷ []) 0 PieceTooLong refl refl;
  together = is_fault Server greatest ping_and_hello (bare_control ∷ bare_piece 3 ∷ bare_piece 3 ∷ bare_last ∷ []) 2 PieceTooLong refl refl;
  over_a_control = is_fault Server greatest ping_and_hello (bare_piece 3 ∷ bare_control ∷ bare_piece 3 ∷ []) 2 PieceTooLong refl refl;
  next_message = does_fit Server greatest two_letters (bare_piece 1 ∷ bare_last ∷ bare_piece 1 ∷ bare_last ∷ []) refl refl;
  not_the_next = is_fault Server greatest two_letters (bare_piece 1 ∷ bare_piece 1 ∷ bare_last ∷ []) 1 PieceTooLong refl refl;
  whole_before_a_control = does_fit Server greatest ping_and_hello (bare_piece 5 ∷ bare_control ∷ bare_last ∷ []) refl refl;
  over_a_control_all = does_fit Server greatest ping_and_hello (bare_piece 3 ∷ bare_control ∷ bare_piece 2 ∷ bare_last ∷ []) refl refl;
  empty = does_fit Server greatest ping_and_hello (bare_piece 0 ∷ bare_control ∷ bare_piece 0 ∷ bare_piece 5 ∷ bare_piece 0 ∷ bare_last ∷ []) refl refl;
}
