-- A value written without an escape, and that what is written is a text of it.
use Rattle.std.proofs.Common.{◌≡◌, ℕ, true, List, [], ◌∷◌, ◌++◌, codes, refl, sym, ap, ◌∙◌, append_assoc}
use Rattle.std.specs.Prelude.{⊤}
use Rattle.wsn_laws.specs.JsonText.{Are, ◌and_then◌, IsNumber, IsString, Value, Null, True, False, Number, String, Object, Members, End, Member, IsValue, AreOthers, IsJsonLine}
use Rattle.wsn_laws.proofs.Strings.{are_unescaped, plain_string}

abbrev mutual
  -- The value, and then the rest.
  pub write : Value → List ℕ → List ℕ
  write Null rest = codes "null" ++ rest
  write True rest = codes "true" ++ rest
  write False rest = codes "false" ++ rest
  write (Number digits) rest = digits ++ rest
  write (String characters) rest = 34 ∷ (characters ++ (34 ∷ rest))
  write (Object End) rest = codes "{}" ++ rest
  write (Object (Member name value others)) rest =
      123 ∷ 34 ∷ (name ++ (34 ∷ 58 ∷ write value (write_others others (125 ∷ rest))))

  -- Members after the first one, and then the rest.
  pub write_others : Members → List ℕ → List ℕ
  write_others End rest = rest
  write_others (Member name value others) rest = 44 ∷ 34 ∷ (name ++ (34 ∷ 58 ∷ write value (write_others others rest)))

abbrev mutual
  -- The numbers are numbers, and no string needs an escape.
  pub IsPlainValue : Value → Type 0
  IsPlainValue Null = ⊤
  IsPlainValue True = ⊤
  IsPlainValue False = ⊤
  IsPlainValue (Number digits) = IsNumber digits
  IsPlainValue (String characters) = are_unescaped characters ≡ true
  IsPlainValue (Object members) = ArePlain members

  pub ArePlain : Members → Type 0
  ArePlain End = ⊤
  ArePlain (Member name value others) = (are_unescaped name ≡ true) × IsPlainValue value × ArePlain others

-- ---- what is written is a text

-- A name, a colon and a value, with what follows.
member_bytes : (name x o : List ℕ) (wx wo : List ℕ → List ℕ) → ((rest : List ℕ) → wx rest ≡ x ++ rest) → ((rest : List ℕ) → wo rest ≡ o ++ rest)
    → (rest : List ℕ) → 34 ∷ (name ++ (34 ∷ 58 ∷ wx (wo rest))) ≡ (34 ∷ (name ++ (34 ∷ 58 ∷ (x ++ o)))) ++ rest
member_bytes name x o wx wo is_x is_o rest =
    let values : wx (wo rest) ≡ (x ++ o) ++ rest = is_x (wo rest) ∙ ap (λ (bs : List ℕ). x ++ bs) (is_o rest) ∙ sym (append_assoc x o rest) in
    ap (λ (bs : List ℕ). 34 ∷ (name ++ (34 ∷ 58 ∷ bs))) values ∙ ap (λ (bs : List ℕ). 34 ∷ bs) (sym (append_assoc name (34 ∷ 58 ∷ (x ++ o)) rest))

-- A name and a colon in front of what is of some kind.
named : (P : List ℕ → Type 0) (name x : List ℕ) → are_unescaped name ≡ true → P x
    → (IsString name and_then Are (codes ":") and_then P) (34 ∷ (name ++ (34 ∷ 58 ∷ x)))
named P name x plain is =
    (34 ∷ (name ++ (34 ∷ [])), 58 ∷ x, ap (λ (bs : List ℕ). 34 ∷ bs) (sym (append_assoc name (34 ∷ []) (58 ∷ x))), plain_string name plain, (58 ∷ [], x, refl, refl, is))

mutual
  pub text_of : (v : Value) → IsPlainValue v → (text : List ℕ) × ((rest : List ℕ) → write v rest ≡ text ++ rest) × IsValue v text
  text_of Null plain = (codes "null", λ rest. refl, refl)
  text_of True plain = (codes "true", λ rest. refl, refl)
  text_of False plain = (codes "false", λ rest. refl, refl)
  text_of (Number digits) plain = (digits, λ rest. refl, (refl, plain))
  text_of (String characters) plain =
      (34 ∷ (characters ++ (34 ∷ [])), λ rest. ap (λ (bs : List ℕ). 34 ∷ bs) (sym (append_assoc characters (34 ∷ []) rest)), plain_string characters plain)
  text_of (Object End) plain = (codes "{}", λ rest. refl, refl)
  text_of (Object (Member name value others)) plain =
      let x = text_of value plain.1 in
      let o = text_of_others others plain.2 in
      let closed : (rest : List ℕ) → write_others others (125 ∷ rest) ≡ (o.0 ++ (125 ∷ [])) ++ rest =
      λ rest. o.1 (125 ∷ rest) ∙ sym (append_assoc o.0 (125 ∷ []) rest) in (
        123 ∷ 34 ∷ (name ++ (34 ∷ 58 ∷ (x.0 ++ (o.0 ++ (125 ∷ []))))),
        λ rest. ap (λ (bs : List ℕ). 123 ∷ bs) (member_bytes name x.0 (o.0 ++ (125 ∷ [])) (write value) (λ bs. write_others others (125 ∷ bs)) x.1 closed rest),
        (
          123 ∷ [],
          34 ∷ (name ++ (34 ∷ 58 ∷ (x.0 ++ (o.0 ++ (125 ∷ []))))),
          refl,
          refl,
          named (IsValue value and_then AreOthers others and_then Are (codes "}")) name (x.0 ++ (o.0 ++ (125 ∷ []))) plain.0
              (x.0, o.0 ++ (125 ∷ []), refl, x.2, (o.0, 125 ∷ [], refl, o.2, refl)),
        ),
      )

  pub text_of_others : (m : Members) → ArePlain m → (text : List ℕ) × ((rest : List ℕ) → write_others m rest ≡ text ++ rest) × AreOthers m text
  text_of_others End plain = ([], λ rest. refl, refl)
  text_of_others (Member name value others) plain =
      let x = text_of value plain.1 in
      let o = text_of_others others plain.2 in (
        44 ∷ 34 ∷ (name ++ (34 ∷ 58 ∷ (x.0 ++ o.0))),
        λ rest. ap (λ (bs : List ℕ). 44 ∷ bs) (member_bytes name x.0 o.0 (write value) (write_others others) x.1 o.1 rest),
        (
          44 ∷ [],
          34 ∷ (name ++ (34 ∷ 58 ∷ (x.0 ++ o.0))),
          refl,
          refl,
          named (IsValue value and_then AreOthers others) name (x.0 ++ o.0) plain.0 (x.0, o.0, refl, x.2, o.2),
        ),
      )

-- A value written with an LF is its line.
pub line_of : (v : Value) → IsPlainValue v → IsJsonLine v (write v (codes "\n"))
line_of v plain =
    let text = text_of v plain in
    (text.0, codes "\n", text.1 (codes "\n"), text.2, refl)
