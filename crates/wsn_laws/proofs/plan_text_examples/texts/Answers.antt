use Rattle.std.proofs.Common.{refl, None, [], ◌∷◌, codes}
use Rattle.wsn_rules.proofs.TextLines.{no_lines, line_in_front, last_line}
use Rattle.wsn_laws.proofs.ComputedReports.{line_by_test}
use Rattle.wsn_wire.specs.declared.length_encoding.Form.TheVariants.{Shortest}
use Rattle.wsn_rules.specs.declared.step.Step.TheVariants.{Piece, Last, Control}
use Rattle.wsn_plan_text.specs.declared.plan_fault.LineWhy.TheVariants.{BadLength}
use Rattle.wsn_plan_text.proofs.DecidedLines.{decoded_line, is_faulty}
use Rattle.wsn_laws.proofs.ExampleLines as lines
use Rattle.wsn_laws.proofs.plan_text_examples.texts.Goals as goal

pub returns : goal.returns
unfolding decoded_line
returns c = record {
  three = (codes "piece 3 -" ∷ codes "control -" ∷ codes "last -" ∷ [], line_in_front (codes "piece 3 -") (codes "control -\nlast -") (codes "control -" ∷ codes "last -" ∷ []) (line_by_test (codes "piece 3 -") refl) (line_in_front (codes "control -") (codes "last -") (codes "last -" ∷ []) (line_by_test (codes "control -") refl) (last_line (codes "last -") (line_by_test (codes "last -") refl) (λ none. cc none))), (lines.piece_3, (lines.control_alone, (lines.last_alone, tt))));
  three_ended = (codes "piece 3 -" ∷ codes "control -" ∷ codes "last -" ∷ [], line_in_front (codes "piece 3 -") (codes "control -\nlast -\n") (codes "control -" ∷ codes "last -" ∷ []) (line_by_test (codes "piece 3 -") refl) (line_in_front (codes "control -") (codes "last -\n") (codes "last -" ∷ []) (line_by_test (codes "control -") refl) (line_in_front (codes "last -") [] [] (line_by_test (codes "last -") refl) (no_lines))), (lines.piece_3, (lines.control_alone, (lines.last_alone, tt))));
  none = ([], no_lines, tt);
  one = (codes "last 37FA213D" ∷ [], last_line (codes "last 37FA213D") (line_by_test (codes "last 37FA213D") refl) (λ none. cc none), (lines.last_upper, tt));
  longer_forms = (codes "piece 3 - two" ∷ codes "last - eight" ∷ [], line_in_front (codes "piece 3 - two") (codes "last - eight\n") (codes "last - eight" ∷ []) (line_by_test (codes "piece 3 - two") refl) (line_in_front (codes "last - eight") [] [] (line_by_test (codes "last - eight") refl) (no_lines)), ((codes "3", codes "-", lines.three, refl, refl), (lines.last_eight, tt)));
  leading_zero = ([], codes "piece 03 -", [], [], last_line (codes "piece 03 -") (line_by_test (codes "piece 03 -") refl) (λ none. cc none), tt, lines.leading_zero, refl);
  letter = ([], codes "piece x y", [], [], last_line (codes "piece x y") (line_by_test (codes "piece x y") refl) (λ none. cc none), tt, lines.letter, refl);
  lone_lf = ([], [], [], [], line_in_front [] [] [] tt (no_lines), tt, lines.empty_line, refl);
  two_spaces = ([], codes "last  -", [], [], last_line (codes "last  -") (line_by_test (codes "last  -") refl) (λ none. cc none), tt, lines.two_spaces, refl);
  bad_key = ([], codes "piece 3 xyz", [], [], last_line (codes "piece 3 xyz") (line_by_test (codes "piece 3 xyz") refl) (λ none. cc none), tt, lines.letters_for_a_key, refl);
  second_line = (codes "last -" ∷ [], codes "control - two", codes "last xyz" ∷ [], Last None Shortest ∷ [], line_in_front (codes "last -") (codes "control - two\nlast xyz\n") (codes "control - two" ∷ codes "last xyz" ∷ []) (line_by_test (codes "last -") refl) (line_in_front (codes "control - two") (codes "last xyz\n") (codes "last xyz" ∷ []) (line_by_test (codes "control - two") refl) (line_in_front (codes "last xyz") [] [] (line_by_test (codes "last xyz") refl) (no_lines))), (lines.last_alone, tt), lines.control_two, refl);
  third_line = (codes "piece 3 -" ∷ codes "control -" ∷ [], codes "last - four", [], Piece 3 None Shortest ∷ Control None ∷ [], line_in_front (codes "piece 3 -") (codes "control -\nlast - four") (codes "control -" ∷ codes "last - four" ∷ []) (line_by_test (codes "piece 3 -") refl) (line_in_front (codes "control -") (codes "last - four") (codes "last - four" ∷ []) (line_by_test (codes "control -") refl) (last_line (codes "last - four") (line_by_test (codes "last - four") refl) (λ none. cc none))), (lines.piece_3, (lines.control_alone, tt)), is_faulty (codes "last - four") BadLength refl, refl);
}
