-- A value's text at the front of bytes is the text of no other value, if no character of a number follows a number.
use Rattle.std.proofs.Common.{◌≡◌, ℕ, Bool, if◌then◌else◌, List, [], ◌∷◌, ◌++◌, drop, codes, refl, sym, ap, ◌∙◌, subst, arith, append_assoc}
use Rattle.std.specs.Prelude.{⊤}
use Rattle.wsn_laws.specs.JsonText.{Are, ◌and_then◌, IsString, IsNumber, Value, Null, True, False, Number, String, Object, Members, End, Member, IsValue, AreOthers}
use Rattle.wsn_laws.proofs.Strings.{one_string}
use Rattle.wsn_laws.proofs.Numbers.{is_numeric, Stops, number_characters, some_number, one_number}

-- ---- a part at the front

-- Bytes of two parts, with those after them.
parts : (P Q : List ℕ → Type 0) (p r : List ℕ) (is : (P and_then Q) p) → p ++ r ≡ is.0 ++ (is.1 ++ r)
parts P Q p r is = ap (λ (bs : List ℕ). bs ++ r) is.2 ∙ append_assoc is.0 is.1 r

-- What begins with one byte.
one_byte : (byte : ℕ) (p q r t : List ℕ) → p ≡ byte ∷ [] → q ≡ byte ∷ [] → p ++ r ≡ q ++ t → r ≡ t
one_byte byte p q r t is_p is_q same =
    let whole : byte ∷ r ≡ byte ∷ t = ap (λ (bs : List ℕ). bs ++ r) (sym is_p) ∙ same ∙ ap (λ (bs : List ℕ). bs ++ t) is_q in
    ap (drop 1) whole

-- Two texts in parts.
aligned : (P P' Q Q' : List ℕ → Type 0) (p q r t : List ℕ) (is_p : (P and_then Q) p) (is_q : (P' and_then Q') q) → p ++ r ≡ q ++ t
    → is_p.0 ++ (is_p.1 ++ r) ≡ is_q.0 ++ (is_q.1 ++ t)
aligned P P' Q Q' p q r t is_p is_q same = sym (parts P Q p r is_p) ∙ same ∙ parts P' Q' q t is_q

-- After one byte.
after : (byte : ℕ) (Q Q' : List ℕ → Type 0) (p q r t : List ℕ) (is_p : (Are (byte ∷ []) and_then Q) p) (is_q : (Are (byte ∷ []) and_then Q') q)
    → p ++ r ≡ q ++ t → is_p.1 ++ r ≡ is_q.1 ++ t
after byte Q Q' p q r t is_p is_q same =
    one_byte byte is_p.0 is_q.0 (is_p.1 ++ r) (is_q.1 ++ t) is_p.3 is_q.3 (aligned (Are (byte ∷ [])) (Are (byte ∷ [])) Q Q' p q r t is_p is_q same)

-- After a name and a colon.
named : (name other : List ℕ) (Q Q' : List ℕ → Type 0) (p q r t : List ℕ) (is_p : (IsString name and_then Are (codes ":") and_then Q) p)
    (is_q : (IsString other and_then Are (codes ":") and_then Q') q) → p ++ r ≡ q ++ t
    → (name ≡ other) × (is_p.4.1 ++ r ≡ is_q.4.1 ++ t)
named name other Q Q' p q r t is_p is_q same =
    let names = one_string name other is_p.0 is_q.0 (is_p.1 ++ r) (is_q.1 ++ t) is_p.3 is_q.3
    (aligned (IsString name) (IsString other) (Are (codes ":") and_then Q) (Are (codes ":") and_then Q') p q r t is_p is_q same) in
    (names.0, after 58 Q Q' is_p.1 is_q.1 r t is_p.4 is_q.4 names.1)

-- ---- what a value begins with

abbrev pub class : ℕ → ℕ
class b = if is_numeric b then 48 else b

abbrev pub kind : Value → ℕ
kind Null = 110
kind True = 116
kind False = 102
kind (Number digits) = 48
kind (String characters) = 34
kind (Object members) = 123

-- The bytes begin with a byte of this class.
abbrev pub Begins : ℕ → List ℕ → Type 0
Begins k bytes = (b : ℕ) × (others : List ℕ) × (bytes ≡ b ∷ others) × (class b ≡ k)

number_begins : (digits r : List ℕ) → IsNumber digits → Begins 48 (digits ++ r)
number_begins [] r is = absurd (omega (arith, some_number [] is))
number_begins (b ∷ bytes) r is =
    (b, bytes ++ r, refl, ap (λ (test : Bool). if test then 48 else b) (number_characters (b ∷ bytes) is).0)

pub begins : (v : Value) (p r : List ℕ) → IsValue v p → Begins (kind v) (p ++ r)
begins Null p r is = (110, codes "ull" ++ r, ap (λ (bs : List ℕ). bs ++ r) is, refl)
begins True p r is = (116, codes "rue" ++ r, ap (λ (bs : List ℕ). bs ++ r) is, refl)
begins False p r is = (102, codes "alse" ++ r, ap (λ (bs : List ℕ). bs ++ r) is, refl)
begins (Number digits) p r is = subst (λ (bs : List ℕ). Begins 48 (bs ++ r)) (sym is.0) (number_begins digits r is.1)
begins (String characters) p r is =
    let text = is.1 in
    (34, text.1 ++ r, ap (λ (bs : List ℕ). bs ++ r) (text.2 ∙ ap (λ (bs : List ℕ). bs ++ text.1) text.3), refl)
begins (Object End) p r is = (123, codes "}" ++ r, ap (λ (bs : List ℕ). bs ++ r) is, refl)
begins (Object (Member name value others)) p r is =
    (123, is.1 ++ r, ap (λ (bs : List ℕ). bs ++ r) (is.2 ∙ ap (λ (bs : List ℕ). bs ++ is.1) is.3), refl)

pub one_class : (k l : ℕ) (bs : List ℕ) → Begins k bs → Begins l bs → k ≡ l
one_class k l bs one other =
    let whole : one.0 ∷ one.1 ≡ other.0 ∷ other.1 = sym one.2 ∙ other.2 in
    let head : one.0 ≡ other.0 = cc in
    sym one.3 ∙ ap class head ∙ other.3

pub same_kind : (v w : Value) (p q r t : List ℕ) → IsValue v p → IsValue w q → p ++ r ≡ q ++ t → kind v ≡ kind w
same_kind v w p q r t is_p is_q same =
    one_class (kind v) (kind w) (q ++ t) (subst (Begins (kind v)) same (begins v p r is_p)) (begins w q t is_q)

-- ---- members after a value

comma_stops : (bytes more : List ℕ) → bytes ≡ 44 ∷ more → Stops bytes
comma_stops bytes more is = subst Stops (sym is) refl

others_stop : (m : Members) (p more : List ℕ) → AreOthers m p → Stops more → Stops (p ++ more)
others_stop End p more is stops = subst (λ (bs : List ℕ). Stops (bs ++ more)) (sym is) stops
others_stop (Member name value others) p more is stops =
    comma_stops (p ++ more) (is.1 ++ more) (ap (λ (bs : List ℕ). bs ++ more) (is.2 ∙ ap (λ (bs : List ℕ). bs ++ is.1) is.3))

-- What follows the first member of an object stops a number.
pub rest_stops : (m : Members) (p r : List ℕ) → (AreOthers m and_then Are (codes "}")) p → Stops (p ++ r)
rest_stops m p r is =
    subst Stops (sym (parts (AreOthers m) (Are (codes "}")) p r is))
    (others_stop m is.0 (is.1 ++ r) is.3 (subst (λ (bs : List ℕ). Stops (bs ++ r)) (sym is.4) refl))

-- ---- one value

literal : (word r t p q : List ℕ) → p ≡ word → q ≡ word → p ++ r ≡ q ++ t → word ++ r ≡ word ++ t
literal word r t p q is_p is_q same = ap (λ (bs : List ℕ). bs ++ r) (sym is_p) ∙ same ∙ ap (λ (bs : List ℕ). bs ++ t) is_q

brace_or_quote : (k l : ℕ) → k ≡ 125 → l ≡ 34 → k ≡ l → ⊥
brace_or_quote k l brace quote same = omega arith

-- An object without members isn't one with members.
no_member : (name : List ℕ) (Q : List ℕ → Type 0) (p q r t : List ℕ) → p ≡ codes "{}" → (Are (codes "{") and_then IsString name and_then Q) q → p ++ r ≡ q ++ t → ⊥
no_member name Q p q r t is_p is_q same =
    let whole : 123 ∷ 125 ∷ r ≡ is_q.0 ++ (is_q.1 ++ t) =
    ap (λ (bs : List ℕ). bs ++ r) (sym is_p) ∙ same ∙ parts (Are (codes "{")) (IsString name and_then Q) q t is_q in
    let inside : 125 ∷ r ≡ is_q.1 ++ t = one_byte 123 (123 ∷ []) is_q.0 (125 ∷ r) (is_q.1 ++ t) refl is_q.3 whole in
    let following : 125 ∷ r ≡ is_q.4.0 ++ (is_q.4.1 ++ t) = inside ∙ parts (IsString name) Q is_q.1 t is_q.4 in
    let brace_begins : Begins 125 (125 ∷ r) = (125, r, refl, refl) in
    let quote_begins : Begins 34 (125 ∷ r) = subst (Begins 34) (sym following) (begins (String name) is_q.4.0 (is_q.4.1 ++ t) is_q.4.3) in
    brace_or_quote 125 34 refl refl (one_class 125 34 (125 ∷ r) brace_begins quote_begins)

-- A comma isn't the end of an object.
no_comma : (Q : List ℕ → Type 0) (p q r t : List ℕ) → p ≡ [] → (Are (codes ",") and_then Q) q → p ++ (125 ∷ r) ≡ q ++ (125 ∷ t) → ⊥
no_comma Q p q r t is_p is_q same =
    let whole : 125 ∷ r ≡ 44 ∷ (is_q.1 ++ (125 ∷ t)) =
    ap (λ (bs : List ℕ). bs ++ (125 ∷ r)) (sym is_p) ∙ same ∙ ap (λ (bs : List ℕ). bs ++ (125 ∷ t)) (is_q.2 ∙ ap (λ (bs : List ℕ). bs ++ is_q.1) is_q.3) in
    cc

-- The last brace of an object.
brace : (m : Members) (p r : List ℕ) (is : (AreOthers m and_then Are (codes "}")) p) → p ++ r ≡ is.0 ++ (125 ∷ r)
brace m p r is = parts (AreOthers m) (Are (codes "}")) p r is ∙ ap (λ (bs : List ℕ). is.0 ++ (bs ++ r)) is.4

same_object : (name other : List ℕ) (v w : Value) (m n : Members) → name ≡ other → v ≡ w → m ≡ n → Object (Member name v m) ≡ Object (Member other w n)
same_object name other v w m n names values members = cc

same_members : (name other : List ℕ) (v w : Value) (m n : Members) → name ≡ other → v ≡ w → m ≡ n → Member name v m ≡ Member other w n
same_members name other v w m n names values members = cc

-- What follows doesn't continue the value, if that is a number.
abbrev pub StopsAfter : Value → List ℕ → Type 0
StopsAfter Null r = ⊤
StopsAfter True r = ⊤
StopsAfter False r = ⊤
StopsAfter (Number digits) r = Stops r
StopsAfter (String characters) r = ⊤
StopsAfter (Object members) r = ⊤

pub stops_after : (v : Value) (r : List ℕ) → Stops r → StopsAfter v r
stops_after Null r stops = tt
stops_after True r stops = tt
stops_after False r stops = tt
stops_after (Number digits) r stops = stops
stops_after (String characters) r stops = tt
stops_after (Object members) r stops = tt

mutual
  pub one_value : (v w : Value) (p q r t : List ℕ) → IsValue v p → IsValue w q → StopsAfter v r → StopsAfter w t → p ++ r ≡ q ++ t → (v ≡ w) × (r ≡ t)
  one_value Null Null p q r t is_p is_q stops also same = (refl, ap (drop 4) (literal (codes "null") r t p q is_p is_q same))
  one_value True True p q r t is_p is_q stops also same = (refl, ap (drop 4) (literal (codes "true") r t p q is_p is_q same))
  one_value False False p q r t is_p is_q stops also same = (refl, ap (drop 5) (literal (codes "false") r t p q is_p is_q same))
  one_value (Number d) (Number e) p q r t is_p is_q stops also same =
      let one = one_number d e r t (number_characters d is_p.1) (number_characters e is_q.1) stops also (ap (λ (bs : List ℕ). bs ++ r) (sym is_p.0) ∙ same ∙ ap (λ (bs : List ℕ). bs ++ t) is_q.0) in
      (ap Number one.0, one.1)
  one_value (String cs) (String ds) p q r t is_p is_q stops also same =
      let one = one_string cs ds p q r t is_p is_q same in
      (ap String one.0, one.1)
  one_value (Object End) (Object End) p q r t is_p is_q stops also same = (refl, ap (drop 2) (literal (codes "{}") r t p q is_p is_q same))
  one_value (Object End) (Object (Member name value others)) p q r t is_p is_q stops also same =
      absurd (no_member name (Are (codes ":") and_then IsValue value and_then AreOthers others and_then Are (codes "}")) p q r t is_p is_q same)
  one_value (Object (Member name value others)) (Object End) p q r t is_p is_q stops also same =
      absurd (no_member name (Are (codes ":") and_then IsValue value and_then AreOthers others and_then Are (codes "}")) q p t r is_q is_p (sym same))
  one_value (Object (Member name value others)) (Object (Member other w more)) p q r t is_p is_q stops also same =
      let inside = after 123
      (IsString name and_then Are (codes ":") and_then IsValue value and_then AreOthers others and_then Are (codes "}"))
      (IsString other and_then Are (codes ":") and_then IsValue w and_then AreOthers more and_then Are (codes "}"))
      p q r t is_p is_q same in
      let names = named name other
      (IsValue value and_then AreOthers others and_then Are (codes "}")) (IsValue w and_then AreOthers more and_then Are (codes "}"))
      is_p.1 is_q.1 r t is_p.4 is_q.4 inside in
      let x = is_p.4.4.4 in
      let y = is_q.4.4.4 in
      let whole = aligned (IsValue value) (IsValue w) (AreOthers others and_then Are (codes "}")) (AreOthers more and_then Are (codes "}"))
      is_p.4.4.1 is_q.4.4.1 r t x y names.1 in
      let values = one_value value w x.0 y.0 (x.1 ++ r) (y.1 ++ t) x.3 y.3 (stops_after value (x.1 ++ r) (rest_stops others x.1 r x.4)) (stops_after w (y.1 ++ t) (rest_stops more y.1 t y.4)) whole in
      let members = one_others others more x.4.0 y.4.0 r t x.4.3 y.4.3 (sym (brace others x.1 r x.4) ∙ values.1 ∙ brace more y.1 t y.4) in
      (same_object name other value w others more names.0 values.0 members.0, members.1)
  one_value v w p q r t is_p is_q stops also same =
      let kinds : kind v ≡ kind w = same_kind v w p q r t is_p is_q same in
      absurd (omega arith)

  pub one_others : (m n : Members) (p q r t : List ℕ) → AreOthers m p → AreOthers n q → p ++ (125 ∷ r) ≡ q ++ (125 ∷ t) → (m ≡ n) × (r ≡ t)
  one_others End End p q r t is_p is_q same = (refl, ap (drop 1) (literal [] (125 ∷ r) (125 ∷ t) p q is_p is_q same))
  one_others End (Member name value others) p q r t is_p is_q same =
      absurd (no_comma (IsString name and_then Are (codes ":") and_then IsValue value and_then AreOthers others) p q r t is_p is_q same)
  one_others (Member name value others) End p q r t is_p is_q same =
      absurd (no_comma (IsString name and_then Are (codes ":") and_then IsValue value and_then AreOthers others) q p t r is_q is_p (sym same))
  one_others (Member name value others) (Member other w more) p q r t is_p is_q same =
      let inside = after 44
      (IsString name and_then Are (codes ":") and_then IsValue value and_then AreOthers others)
      (IsString other and_then Are (codes ":") and_then IsValue w and_then AreOthers more)
      p q (125 ∷ r) (125 ∷ t) is_p is_q same in
      let names = named name other (IsValue value and_then AreOthers others) (IsValue w and_then AreOthers more)
      is_p.1 is_q.1 (125 ∷ r) (125 ∷ t) is_p.4 is_q.4 inside in
      let x = is_p.4.4.4 in
      let y = is_q.4.4.4 in
      let whole = aligned (IsValue value) (IsValue w) (AreOthers others) (AreOthers more)
      is_p.4.4.1 is_q.4.4.1 (125 ∷ r) (125 ∷ t) x y names.1 in
      let values = one_value value w x.0 y.0 (x.1 ++ (125 ∷ r)) (y.1 ++ (125 ∷ t)) x.3 y.3 (stops_after value (x.1 ++ (125 ∷ r)) (others_stop others x.1 (125 ∷ r) x.4 refl)) (stops_after w (y.1 ++ (125 ∷ t)) (others_stop more y.1 (125 ∷ t) y.4 refl)) whole in
      let members = one_others others more x.1 y.1 r t x.4 y.4 values.1 in
      (same_members name other value w others more names.0 values.0 members.0, members.1)
