use Rattle.std.proofs.Common.{refl, None, Some, [], ◌∷◌, ◌++◌, replicate}
use Rattle.wsn_wire.specs.declared.endpoint.Role.TheVariants.{Client, Server}
use Rattle.wsn_wire.specs.declared.length_encoding.Form.TheVariants.{Shortest, Two, Eight}
use Rattle.wsn_rules.specs.declared.step.Step.TheVariants.{Piece, Last}
use Rattle.wsn_rules.specs.Examples.{greatest}
use Rattle.wsn_laws.specs.PlanExamples.{bare_piece, bare_last, bare_control, four_keys, any_length}
use Rattle.wsn_rules.proofs.Computed.{found}
use Rattle.wsn_laws.proofs.ComputedRecuts.{has_plan}
use Rattle.wsn_laws.proofs.plan_examples.plans.Goals as goal

pub returns : goal.returns
unfolding found
returns c = record {
  masked = has_plan Client greatest (0x81 ∷ 0x85 ∷ 0x37 ∷ 0xfa ∷ 0x21 ∷ 0x3d ∷ 0x7f ∷ 0x9f ∷ 0x4d ∷ 0x51 ∷ 0x58 ∷ []) (Last (Some (0x37 ∷ 0xfa ∷ 0x21 ∷ 0x3d ∷ [])) Shortest ∷ []) refl refl refl refl refl;
  ping_between = has_plan Server greatest (0x01 ∷ 0x03 ∷ 0x48 ∷ 0x65 ∷ 0x6c ∷ 0x89 ∷ 0x00 ∷ 0x80 ∷ 0x02 ∷ 0x6c ∷ 0x6f ∷ []) (bare_piece 3 ∷ bare_control ∷ bare_last ∷ []) refl refl refl refl refl;
  keys = has_plan Client greatest (0x01 ∷ 0x81 ∷ 0x37 ∷ 0xfa ∷ 0x21 ∷ 0x3d ∷ 0xd5 ∷ 0x89 ∷ 0x80 ∷ 0x00 ∷ 0x00 ∷ 0x00 ∷ 0x01 ∷ 0x00 ∷ 0x81 ∷ 0xff ∷ 0x00 ∷ 0x00 ∷ 0x00 ∷ 0x7d ∷ 0x80 ∷ 0x81 ∷ 0x00 ∷ 0x00 ∷ 0x00 ∷ 0x00 ∷ 0xac ∷ []) four_keys refl refl refl refl refl;
  inside_a_character = has_plan Server greatest (0x01 ∷ 0x01 ∷ 0xe2 ∷ 0x00 ∷ 0x01 ∷ 0x82 ∷ 0x80 ∷ 0x01 ∷ 0xac ∷ []) (bare_piece 1 ∷ bare_piece 1 ∷ bare_last ∷ []) refl refl refl refl refl;
  empty_pieces = has_plan Server greatest (0x01 ∷ 0x00 ∷ 0x89 ∷ 0x00 ∷ 0x00 ∷ 0x00 ∷ 0x80 ∷ 0x05 ∷ 0x48 ∷ 0x65 ∷ 0x6c ∷ 0x6c ∷ 0x6f ∷ []) (bare_piece 0 ∷ bare_control ∷ bare_piece 0 ∷ bare_last ∷ []) refl refl refl refl refl;
  long = has_plan Server greatest (0x02 ∷ 0x7d ∷ (replicate 125 0x2a ++ 0x80 ∷ 0x01 ∷ 0x2a ∷ [])) (bare_piece 125 ∷ bare_last ∷ []) refl refl refl refl refl;
  two_bytes = has_plan Server any_length (0x81 ∷ 0x7e ∷ 0x00 ∷ 0x01 ∷ 0x41 ∷ []) (Last None Two ∷ []) refl refl refl refl refl;
  eight_bytes = has_plan Server any_length (0x01 ∷ 0x7f ∷ 0x00 ∷ 0x00 ∷ 0x00 ∷ 0x00 ∷ 0x00 ∷ 0x00 ∷ 0x00 ∷ 0x01 ∷ 0x41 ∷ 0x80 ∷ 0x00 ∷ []) (Piece 1 None Eight ∷ bare_last ∷ []) refl refl refl refl refl;
  before_a_tail = has_plan Server greatest (0x88 ∷ 0x02 ∷ 0x03 ∷ 0xe8 ∷ 0x81 ∷ 0x01 ∷ 0x41 ∷ []) (bare_control ∷ []) refl refl refl refl refl;
  nothing = has_plan Client greatest [] [] refl refl refl refl refl;
}
