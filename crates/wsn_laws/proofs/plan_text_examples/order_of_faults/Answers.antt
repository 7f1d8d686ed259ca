use Rattle.std.proofs.Common.{refl, codes}
use Rattle.wsn_plan_text.specs.declared.plan_fault.LineWhy.TheVariants.{BadForm, BadNumber, BadKey}
use Rattle.wsn_plan_text.proofs.DecidedLines.{decoded_line, is_faulty}
use Rattle.wsn_laws.proofs.plan_text_examples.order_of_faults.Goals as goal

pub returns : goal.returns
unfolding decoded_line
returns c = record {
  form_before_number = is_faulty (codes "piece 03  -") BadForm refl;
  form_before_key = is_faulty (codes "last xyz two two") BadForm refl;
  number_before_key = is_faulty (codes "piece 03 xyz") BadNumber refl;
  number_before_length = is_faulty (codes "piece 03 - four") BadNumber refl;
  key_before_length = is_faulty (codes "piece 3 xyz four") BadKey refl;
  last_key_before_length = is_faulty (codes "last xyz four") BadKey refl;
}
