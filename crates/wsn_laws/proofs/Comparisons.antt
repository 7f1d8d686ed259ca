-- The value of a comparison's object, and that it determines the comparison.
use Rattle.std.proofs.Common.{◌≡◌, ℕ, true, false, List, ◌∷◌, ◌++◌, drop, codes, refl, sym, ap, ◌∙◌, append_assoc}
use Rattle.wsn_rules.specs.declared.compared.Compared.{Compared}
use Rattle.wsn_rules.specs.declared.compared.Compared.TheVariants.{Equal, Different, NotAccepted}
use Rattle.wsn_rules.specs.declared.verdict.Verdict.{Verdict}
use Rattle.wsn_rules.specs.declared.verdict.Verdict.TheVariants.{Accepted, Cut, Refused}
use Rattle.wsn_print.specs.Json.{string_field}
use Rattle.wsn_print.specs.Objects.{verdict_members, answer_word, answer_fields, comparison_object}
use Rattle.wsn_laws.specs.JsonText.{String, Object, Members, End, Member}
use Rattle.wsn_laws.specs.Answers.{IsComparisonInRange, IsComparisonPrintedWhole}
use Rattle.wsn_laws.proofs.Strings.{are_unescaped}
use Rattle.wsn_laws.proofs.Written.{write, write_others, IsPlainValue, ArePlain}
use Rattle.wsn_laws.proofs.Words.{decimal_number}
use Rattle.wsn_laws.proofs.Fields.{number, one_number, one_written}
use Rattle.wsn_laws.proofs.Members.{AreWritten, member, word_is}
use Rattle.wsn_laws.proofs.Verdicts.{verdict_json_members, members_written, members_plain, one_members}

abbrev pub answer_json : Compared → Members
answer_json Equal = End
answer_json (Different k) = Member (codes "event") (number k) End
answer_json (NotAccepted second verdict) = Member (codes "verdict") (Object (verdict_json_members verdict)) End

abbrev pub comparison_members : Compared → Members
comparison_members compared = Member (codes "type") (String (codes "comparison")) (Member (codes "answer") (String (answer_word compared)) (answer_json compared))

-- ---- written

inner_written : (verdict : Verdict) (rest : List ℕ) → write (Object (verdict_json_members verdict)) rest ≡ 123 ∷ (verdict_members verdict ++ (125 ∷ rest))
inner_written (Accepted s) rest = ap (λ (bs : List ℕ). 123 ∷ drop 1 bs) (members_written (Accepted s) (125 ∷ rest))
inner_written (Cut s) rest = ap (λ (bs : List ℕ). 123 ∷ drop 1 bs) (members_written (Cut s) (125 ∷ rest))
inner_written (Refused refusal) rest = ap (λ (bs : List ℕ). 123 ∷ drop 1 bs) (members_written (Refused refusal) (125 ∷ rest))

three : (a b c rest : List ℕ) → a ++ (b ++ (c ++ rest)) ≡ (a ++ b ++ c) ++ rest
three a b c rest = simp append_assoc

answer_written : (compared : Compared) (rest : List ℕ) → write_others (answer_json compared) rest ≡ answer_fields compared ++ rest
answer_written Equal rest = refl
answer_written (Different k) rest = refl
answer_written (NotAccepted second verdict) rest =
    ap (λ (bs : List ℕ). codes ",\"verdict\":" ++ bs) (inner_written verdict rest)
    ∙ three (codes ",\"verdict\":{") (verdict_members verdict) (codes "}") rest

left : (a b c d : List ℕ) → a ++ b ++ c ++ d ≡ a ++ (b ++ (c ++ d))
left a b c d = simp append_assoc

pub comparison_written : (compared : Compared) → comparison_object compared ≡ write (Object (comparison_members compared)) (codes "\n")
comparison_written compared =
    let answer : AreWritten (answer_json compared) (codes "}\n") (answer_fields compared ++ codes "}\n") = record { are = answer_written compared (codes "}\n") } in
    let members = member (codes "answer") (word_is (answer_word compared)) answer in
    left (codes "{\"type\":\"comparison\"") (string_field (codes "answer") (answer_word compared)) (answer_fields compared) (codes "}\n")
    ∙ ap (λ (bs : List ℕ). codes "{\"type\":\"comparison\"" ++ bs) (sym members.are)

-- ---- plain

word_plain : (compared : Compared) → are_unescaped (answer_word compared) ≡ true
word_plain Equal = refl
word_plain (Different k) = refl
word_plain (NotAccepted false verdict) = refl
word_plain (NotAccepted true verdict) = refl

answer_plain : (compared : Compared) → IsComparisonInRange compared → ArePlain (answer_json compared)
answer_plain Equal fits = tt
answer_plain (Different k) fits = (refl, decimal_number k fits, tt)
answer_plain (NotAccepted second verdict) fits = (refl, members_plain verdict fits, tt)

pub comparison_plain : (compared : Compared) → IsComparisonInRange compared → IsPlainValue (Object (comparison_members compared))
comparison_plain compared fits = (refl, refl, (refl, word_plain compared, answer_plain compared fits))

-- ---- what the value determines

one_answer : (compared other : Compared) → IsComparisonInRange compared → IsComparisonInRange other → IsComparisonPrintedWhole compared → IsComparisonPrintedWhole other
    → answer_word compared ≡ answer_word other → answer_json compared ≡ answer_json other → compared ≡ other
one_answer Equal Equal fits also whole whole_too words same = refl
one_answer (Different k) (Different n) fits also whole whole_too words same =
    let numbers : number k ≡ number n = cc in
    ap Different (one_number k n fits also numbers)
one_answer (NotAccepted false v) (NotAccepted false w) fits also whole whole_too words same =
    let members : verdict_json_members v ≡ verdict_json_members w = cc in
    ap (NotAccepted false) (one_members v w fits also whole whole_too members)
one_answer (NotAccepted true v) (NotAccepted true w) fits also whole whole_too words same =
    let members : verdict_json_members v ≡ verdict_json_members w = cc in
    ap (NotAccepted true) (one_members v w fits also whole whole_too members)
one_answer compared other fits also whole whole_too words same = absurd cc

pub one_comparison : (compared other : Compared) → IsComparisonInRange compared → IsComparisonInRange other → IsComparisonPrintedWhole compared → IsComparisonPrintedWhole other
    → comparison_object compared ≡ comparison_object other → compared ≡ other
one_comparison compared other fits also whole whole_too same =
    let values : Object (comparison_members compared) ≡ Object (comparison_members other) =
    one_written (Object (comparison_members compared)) (Object (comparison_members other)) (comparison_object compared) (comparison_object other)
    (comparison_plain compared fits) (comparison_plain other also) (comparison_written compared) (comparison_written other) same in
    let words : answer_word compared ≡ answer_word other = cc in
    let answers : answer_json compared ≡ answer_json other = cc in
    one_answer compared other fits also whole whole_too words answers
