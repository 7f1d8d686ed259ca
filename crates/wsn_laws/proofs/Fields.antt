-- The values of fields, how they are written, and what they determine.
use Rattle.std.proofs.Common.{◌≡◌, ℕ, Option, None, Some, List, [], ◌∷◌, ◌++◌, codes, refl, sym, ap, ◌∙◌, subst, append_assoc}
use Rattle.std.specs.Prelude.{decimal, IfSome}
use Rattle.std.proofs.lemmas.Fmt.{decimal_injective}
use Rattle.wsn_print.specs.Json.{string_of, number_or_null, field, string_field, number_field}
use Rattle.wsn_laws.specs.JsonText.{Value, Null, Number, Object, Members, IsObjectLine, IsJsonLine, HasDistinctNames}
use Rattle.wsn_laws.specs.Answers.{IsInU64}
use Rattle.wsn_laws.proofs.Written.{write, IsPlainValue, line_of}
use Rattle.wsn_laws.proofs.OneValue.{one_value, stops_after}
use Rattle.wsn_laws.proofs.Words.{decimal_number}

-- ---- lines

-- Two lines of values that are equal bytes are of one value.
pub one_line : (v w : Value) (line : List ℕ) → IsJsonLine v line → IsJsonLine w line → v ≡ w
one_line v w line is_v is_w =
    (one_value v w is_v.0 is_w.0 (codes "\n") (codes "\n") is_v.3 is_w.3 (stops_after v (codes "\n") refl) (stops_after w (codes "\n") refl)
    (ap (λ (bs : List ℕ). is_v.0 ++ bs) (sym is_v.4) ∙ sym is_v.2 ∙ is_w.2 ∙ ap (λ (bs : List ℕ). is_w.0 ++ bs) is_w.4)).0

-- So are what is written of them.
pub one_written : (v w : Value) (text other : List ℕ) → IsPlainValue v → IsPlainValue w → text ≡ write v (codes "\n") → other ≡ write w (codes "\n") → text ≡ other → v ≡ w
one_written v w text other plain_v plain_w is_text is_other same =
    one_line v w other (subst (IsJsonLine v) (sym is_text ∙ same) (line_of v plain_v)) (subst (IsJsonLine w) (sym is_other) (line_of w plain_w))

pub object_line : (members : Members) (line : List ℕ) → IsPlainValue (Object members) → HasDistinctNames (Object members) → line ≡ write (Object members) (codes "\n") → IsObjectLine line
object_line members line plain distinct is = (members, subst (IsJsonLine (Object members)) (sym is) (line_of (Object members) plain), distinct)

-- ---- members as they are written

pub value_member : (key value rest : List ℕ) → 44 ∷ 34 ∷ (key ++ (34 ∷ 58 ∷ (value ++ rest))) ≡ field key value ++ rest
value_member key value rest =
    ap (λ (bs : List ℕ). 44 ∷ 34 ∷ bs) (sym (append_assoc key (codes "\":") (value ++ rest)) ∙ sym (append_assoc (key ++ codes "\":") value rest))

pub number_member : (key : List ℕ) (n : ℕ) (rest : List ℕ) → 44 ∷ 34 ∷ (key ++ (34 ∷ 58 ∷ (decimal n ++ rest))) ≡ number_field key n ++ rest
number_member key n rest = value_member key (decimal n) rest

pub string_member : (key word rest : List ℕ) → 44 ∷ 34 ∷ (key ++ (34 ∷ 58 ∷ 34 ∷ (word ++ (34 ∷ rest)))) ≡ string_field key word ++ rest
string_member key word rest =
    ap (λ (bs : List ℕ). 44 ∷ 34 ∷ (key ++ (34 ∷ 58 ∷ 34 ∷ bs))) (sym (append_assoc word (34 ∷ []) rest)) ∙ value_member key (string_of word) rest

-- ---- numbers

abbrev pub number : ℕ → Value
number n = Number (decimal n)

pub one_number : (m n : ℕ) → IsInU64 m → IsInU64 n → number m ≡ number n → m ≡ n
one_number m n fits also same =
    let texts : decimal m ≡ decimal n = cc in
    decimal_injective m n fits also texts

abbrev pub optional_number : Option ℕ → Value
optional_number None = Null
optional_number (Some n) = number n

pub optional_written : (n : Option ℕ) (rest : List ℕ) → write (optional_number n) rest ≡ number_or_null n ++ rest
optional_written None rest = refl
optional_written (Some n) rest = refl

pub plain_optional : (n : Option ℕ) → IfSome n IsInU64 → IsPlainValue (optional_number n)
plain_optional None fits = tt
plain_optional (Some n) fits = decimal_number n fits

pub optional_distinct : (n : Option ℕ) → HasDistinctNames (optional_number n)
optional_distinct None = tt
optional_distinct (Some n) = tt

pub one_optional : (m n : Option ℕ) → IfSome m IsInU64 → IfSome n IsInU64 → optional_number m ≡ optional_number n → m ≡ n
one_optional None None fits also same = refl
one_optional None (Some n) fits also same = absurd cc
one_optional (Some m) None fits also same = absurd cc
one_optional (Some m) (Some n) fits also same = ap Some (one_number m n fits also same)
