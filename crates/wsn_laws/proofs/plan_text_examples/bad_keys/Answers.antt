use Rattle.std.proofs.Common.{refl, Some, [], ◌∷◌, codes}
use Rattle.wsn_wire.specs.declared.length_encoding.Form.TheVariants.{Shortest}
use Rattle.wsn_rules.specs.declared.step.Step.TheVariants.{Last}
use Rattle.wsn_plan_text.specs.declared.plan_fault.LineWhy.TheVariants.{BadKey}
use Rattle.wsn_plan_text.proofs.DecidedLines.{decoded_line, encodes, is_faulty}
use Rattle.wsn_laws.proofs.plan_text_examples.bad_keys.Goals as goal

pub returns : goal.returns
unfolding decoded_line
returns c = record {
  letters = is_faulty (codes "piece 3 xyz") BadKey refl;
  seven_digits = is_faulty (codes "last 0102030") BadKey refl;
  nine_digits = is_faulty (codes "last 010203040") BadKey refl;
  two_dashes = is_faulty (codes "control --") BadKey refl;
  no_digit = is_faulty (codes "last 0102030g") BadKey refl;
  near = encodes (codes "last 01020304") (Last (Some (0x01 ∷ 0x02 ∷ 0x03 ∷ 0x04 ∷ [])) Shortest) refl;
}
