-- Answers of two kinds have different objects.
use Rattle.std.proofs.Common.{◌≡◌, List, ℕ, take, codes, refl, sym, ap, ◌∙◌}
use Rattle.wsn_laws.specs.Answers.{Answer, OfVerdict, OfHead, OfReport, OfComparison, answer_object, IsAnswerInRange, IsAnswerPrintedWhole}
use Rattle.wsn_laws.proofs.Distinct.{differ}
use Rattle.wsn_laws.proofs.Verdicts.{one_verdict}
use Rattle.wsn_laws.proofs.Heads.{one_frame}
use Rattle.wsn_laws.proofs.Reports.{one_report}
use Rattle.wsn_laws.proofs.Comparisons.{one_comparison}

-- The first bytes of its object.
abbrev first_bytes : Answer → List ℕ
first_bytes (OfVerdict verdict) = codes "{\"type\":\"ver"
first_bytes (OfHead head) = codes "{\"type\":\"fra"
first_bytes (OfReport report) = codes "{\"type\":\"rep"
first_bytes (OfComparison compared) = codes "{\"type\":\"com"

begins : (answer : Answer) → take 12 (answer_object answer) ≡ first_bytes answer
begins (OfVerdict verdict) = refl
begins (OfHead head) = refl
begins (OfReport report) = refl
begins (OfComparison compared) = refl

pub one_of_any : (answer other : Answer) → IsAnswerInRange answer → IsAnswerInRange other → IsAnswerPrintedWhole answer → IsAnswerPrintedWhole other
    → answer_object answer ≡ answer_object other → answer ≡ other
one_of_any (OfVerdict v) (OfVerdict w) fits also whole whole_too same = ap OfVerdict (one_verdict v w fits also whole whole_too same)
one_of_any (OfHead h) (OfHead g) fits also whole whole_too same = ap OfHead (one_frame h g fits also same)
one_of_any (OfReport r) (OfReport s) fits also whole whole_too same = ap OfReport (one_report r s fits also same)
one_of_any (OfComparison c) (OfComparison d) fits also whole whole_too same = ap OfComparison (one_comparison c d fits also whole whole_too same)
one_of_any answer other fits also whole whole_too same =
    absurd (differ (first_bytes answer) (first_bytes other) refl (sym (begins answer) ∙ ap (take 12) same ∙ begins other))
