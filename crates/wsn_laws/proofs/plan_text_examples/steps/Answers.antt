use Rattle.std.proofs.Common.{refl, ◌^◌, codes}
use Rattle.std.proofs.lemmas.Bool.{ltb-true}
use Rattle.std.specs.Fmt.{digits}
use Rattle.hex.specs.Hex.{decode_pairs}
use Rattle.wsn_laws.proofs.ExampleLines.{one_to_four, lower_key, piece_3, last_alone, control_alone, last_upper, last_eight}
use Rattle.wsn_laws.proofs.plan_text_examples.steps.Goals as goal

pub returns : goal.returns
unfolding digits decode_pairs
returns c = record {
  piece = piece_3;
  last = last_alone;
  control = control_alone;
  lower_case = (codes "37fa213d", lower_key, refl);
  upper_case = last_upper;
  either_case = (codes "37Fa213D", (refl, refl), refl);
  nothing = (codes "0", codes "-", (ltb-true 0 (2 ^ 64) refl, refl), refl, refl);
  piece_with_key = (codes "12", codes "01020304", (ltb-true 12 (2 ^ 64) refl, refl), one_to_four, refl);
  longest = (codes "18446744073709551615", codes "-", (ltb-true 18446744073709551615 (2 ^ 64) refl, refl), refl, refl);
  piece_two = (codes "5", codes "-", (ltb-true 5 (2 ^ 64) refl, refl), refl, refl);
  piece_eight = (codes "5", codes "01020304", (ltb-true 5 (2 ^ 64) refl, refl), one_to_four, refl);
  last_two = (codes "01020304", one_to_four, refl);
  last_eight = last_eight;
}
