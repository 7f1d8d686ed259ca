use Rattle.std.proofs.Common.{refl, [], ◌∷◌, ◌++◌, codes}
use Rattle.wsn_rules.proofs.TextLines.{no_lines, line_in_front, last_line}
use Rattle.wsn_laws.proofs.ComputedReports.{line_by_test}
use Rattle.wsn_laws.proofs.capture_examples.lines.Goals as goal

pub returns : goal.returns
returns c = record {
  none = no_lines;
  one = last_line (codes "C.") (line_by_test (codes "C.") refl) (λ none. cc none);
  one_ended = line_in_front (codes "C.") [] [] (line_by_test (codes "C.") refl) no_lines;
  two = line_in_front (codes "S.") (codes "C.") (codes "C." ∷ []) (line_by_test (codes "S.") refl) (last_line (codes "C.") (line_by_test (codes "C.") refl) (λ none. cc none));
  two_ended = line_in_front (codes "S.") (codes "C.\n") (codes "C." ∷ []) (line_by_test (codes "S.") refl) (line_in_front (codes "C.") [] [] (line_by_test (codes "C.") refl) no_lines);
  empty = line_in_front [] [] [] tt no_lines;
  two_empty = line_in_front [] (codes "\n") ([] ∷ []) tt (line_in_front [] [] [] tt no_lines);
  empty_between = line_in_front (codes "S.") (codes "\nC.") ([] ∷ codes "C." ∷ []) (line_by_test (codes "S.") refl) (line_in_front [] (codes "C.") (codes "C." ∷ []) tt (last_line (codes "C.") (line_by_test (codes "C.") refl) (λ none. cc none)));
  cr_is_kept = line_in_front (codes "S." ++ 13 ∷ []) [] [] (line_by_test (codes "S." ++ 13 ∷ []) refl) no_lines;
}
