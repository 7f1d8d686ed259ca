use Rattle.std.proofs.Common.{refl, None, [], ◌∷◌, replicate}
use Rattle.wsn_wire.specs.declared.endpoint.Role.TheVariants.{Server}
use Rattle.wsn_wire.specs.declared.opcode.Kind.TheVariants as kind
use Rattle.wsn_wire.specs.declared.length_encoding.Form.TheVariants.{Two, Eight}
use Rattle.wsn_rules.specs.declared.step.Step.TheVariants.{Piece, Last}
use Rattle.wsn_rules.specs.declared.why.Why.TheVariants.{PieceTooLong, NotAMessage, WrongForm}
use Rattle.wsn_rules.specs.Meaning.{Message}
use Rattle.wsn_rules.specs.Examples.{greatest}
use Rattle.wsn_laws.specs.PlanExamples.{bare_piece, bare_control, ping_and_hello, any_length}
use Rattle.wsn_laws.proofs.ComputedFaults.{decoded, is_fault, does_fit}
use Rattle.wsn_laws.proofs.fault_examples.forms.Goals as goal

pub returns : goal.returns
unfolding decoded
returns c = record {
  shortest_two = is_fault Server greatest (Message kind.Text (0x41 ∷ []) ∷ []) (Last None Two ∷ []) 0 WrongForm refl refl;
  shortest_eight = is_fault Server greatest (Message kind.Text (0x41 ∷ []) ∷ []) (Last None Eight ∷ []) 0 WrongForm refl refl;
  shortest_piece = is_fault Server greatest ping_and_hello (bare_control ∷ Piece 1 None Two ∷ []) 1 WrongForm refl refl;
  not_a_message_first = is_fault Server greatest ping_and_hello (Last None Two ∷ []) 0 NotAMessage refl refl;
  too_long_first = is_fault Server greatest ping_and_hello (Piece 6 None Two ∷ []) 0 PieceTooLong refl refl;
  two_of_126 = is_fault Server any_length (Message kind.Binary (replicate 126 0x2a) ∷ []) (Last None Two ∷ []) 0 WrongForm refl refl;
  piece_of_126 = is_fault Server any_length (Message kind.Binary (replicate 126 0x2a) ∷ []) (Piece 126 None Two ∷ []) 0 WrongForm refl refl;
  near_two = does_fit Server any_length (Message kind.Text (0x41 ∷ []) ∷ []) (Last None Two ∷ []) refl refl;
  near_eight = does_fit Server any_length (Message kind.Text (0x41 ∷ []) ∷ []) (Last None Eight ∷ []) refl refl;
  near_125 = does_fit Server any_length (Message kind.Binary (replicate 125 0x2a) ∷ []) (Last None Two ∷ []) refl refl;
  rest_of_125 = does_fit Server any_length (Message kind.Binary (replicate 126 0x2a) ∷ []) (bare_piece 1 ∷ Last None Two ∷ []) refl refl;
  eight_of_126 = does_fit Server any_length (Message kind.Binary (replicate 126 0x2a) ∷ []) (Last None Eight ∷ []) refl refl;
}
