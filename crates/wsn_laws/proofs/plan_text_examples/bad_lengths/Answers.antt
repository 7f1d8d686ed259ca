use Rattle.std.proofs.Common.{refl, None, codes}
use Rattle.wsn_wire.specs.declared.length_encoding.Form.TheVariants.{Two}
use Rattle.wsn_rules.specs.declared.step.Step.TheVariants.{Last}
use Rattle.wsn_plan_text.specs.declared.plan_fault.LineWhy.TheVariants.{BadLength}
use Rattle.wsn_plan_text.proofs.DecidedLines.{decoded_line, encodes, is_faulty}
use Rattle.wsn_laws.proofs.plan_text_examples.bad_lengths.Goals as goal

pub returns : goal.returns
unfolding decoded_line
returns c = record {
  shortest = is_faulty (codes "last - shortest") BadLength refl;
  four = is_faulty (codes "piece 3 - four") BadLength refl;
  capital = is_faulty (codes "last - Two") BadLength refl;
  digit = is_faulty (codes "piece 3 - 2") BadLength refl;
  longer = is_faulty (codes "last - eights") BadLength refl;
  near = encodes (codes "last - two") (Last None Two) refl;
}
