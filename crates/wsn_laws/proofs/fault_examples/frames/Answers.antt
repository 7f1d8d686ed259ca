use Rattle.std.proofs.Common.{refl, false, None, [], ◌∷◌}
use Rattle.wsn_wire.specs.declared.endpoint.Role.TheVariants.{Server}
use Rattle.wsn_wire.specs.declared.length_encoding.Form.TheVariants.{Two}
use Rattle.wsn_rules.specs.declared.step.Step.TheVariants.{Piece}
use Rattle.wsn_rules.specs.declared.why.Why.TheVariants.{PieceTooLong, TooManyPieces}
use Rattle.wsn_rules.specs.UniformPlan.{uniform_plan}
use Rattle.wsn_laws.specs.PlanExamples.{bare_piece, bare_last, bare_control, ping_and_hello, two_letters, frames_of}
use Rattle.wsn_laws.proofs.ComputedFaults.{decoded, is_fault, does_fit}
use Rattle.wsn_laws.proofs.fault_examples.frames.Goals as goal

pub returns : goal.returns
unfolding decoded
returns c = record {
  second = is_fault Server (frames_of 2) ping_and_hello (bare_piece 1 ∷ bare_piece 1 ∷ []) 1 TooManyPieces refl refl;
  first = is_fault Server (frames_of 1) ping_and_hello (bare_piece 0 ∷ []) 0 TooManyPieces refl refl;
  over_a_control = is_fault Server (frames_of 2) ping_and_hello (bare_piece 1 ∷ bare_control ∷ bare_piece 1 ∷ []) 2 TooManyPieces refl refl;
  too_long_first = is_fault Server (frames_of 2) ping_and_hello (bare_piece 1 ∷ bare_piece 9 ∷ []) 1 PieceTooLong refl refl;
  form_later = is_fault Server (frames_of 1) ping_and_hello (Piece 1 None Two ∷ []) 0 TooManyPieces refl refl;
  near = does_fit Server (frames_of 2) ping_and_hello (bare_piece 1 ∷ bare_control ∷ bare_last ∷ []) refl refl;
  for_each_message = does_fit Server (frames_of 2) two_letters (bare_piece 1 ∷ bare_last ∷ bare_piece 1 ∷ bare_last ∷ []) refl refl;
  uniform = is_fault Server (frames_of 2) ping_and_hello (uniform_plan 2 false None ping_and_hello) 2 TooManyPieces refl refl;
  uniform_near = does_fit Server (frames_of 2) ping_and_hello (uniform_plan 3 false None ping_and_hello) refl refl;
}
