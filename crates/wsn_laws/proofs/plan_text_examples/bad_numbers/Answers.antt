use Rattle.std.proofs.Common.{refl, None, codes}
use Rattle.wsn_wire.specs.declared.length_encoding.Form.TheVariants.{Shortest}
use Rattle.wsn_rules.specs.declared.step.Step.TheVariants.{Piece}
use Rattle.wsn_plan_text.specs.declared.plan_fault.LineWhy.TheVariants.{BadNumber}
use Rattle.wsn_plan_text.proofs.DecidedLines.{decoded_line, encodes, is_faulty}
use Rattle.wsn_laws.proofs.plan_text_examples.bad_numbers.Goals as goal

pub returns : goal.returns
unfolding decoded_line
returns c = record {
  leading_zero = is_faulty (codes "piece 03 -") BadNumber refl;
  two_zeros = is_faulty (codes "piece 00 -") BadNumber refl;
  letter = is_faulty (codes "piece x y") BadNumber refl;
  minus = is_faulty (codes "piece -1 -") BadNumber refl;
  plus = is_faulty (codes "piece +1 -") BadNumber refl;
  too_large = is_faulty (codes "piece 18446744073709551616 -") BadNumber refl;
  hexadecimal = is_faulty (codes "piece a -") BadNumber refl;
  near = encodes (codes "piece 30 -") (Piece 30 None Shortest) refl;
}
