use Rattle.std.proofs.Common.{refl, [], codes}
use Rattle.wsn_plan_text.specs.declared.plan_fault.LineWhy.TheVariants.{BadForm}
use Rattle.wsn_plan_text.proofs.DecidedLines.{decoded_line, is_faulty}
use Rattle.wsn_laws.proofs.plan_text_examples.bad_forms.Goals as goal

pub returns : goal.returns
unfolding decoded_line
returns c = record {
  empty = is_faulty [] BadForm refl;
  word_alone = is_faulty (codes "last") BadForm refl;
  no_key = is_faulty (codes "last ") BadForm refl;
  two_spaces = is_faulty (codes "last  -") BadForm refl;
  no_number = is_faulty (codes "piece -") BadForm refl;
  piece_alone = is_faulty (codes "piece") BadForm refl;
  unknown = is_faulty (codes "lasts -") BadForm refl;
  capital = is_faulty (codes "Last -") BadForm refl;
  space_first = is_faulty (codes " last -") BadForm refl;
  space_after = is_faulty (codes "last - ") BadForm refl;
  a_space_after_a_form = is_faulty (codes "last - two ") BadForm refl;
  control_with_form = is_faulty (codes "control - two") BadForm refl;
  too_many = is_faulty (codes "last - two two") BadForm refl;
  too_many_of_a_piece = is_faulty (codes "piece 3 - two two") BadForm refl;
  tab = is_faulty (codes "last\t-") BadForm refl;
}
