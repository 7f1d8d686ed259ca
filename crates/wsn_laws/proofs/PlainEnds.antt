-- The texts of redacted lines don't end with CR.
use Rattle.std.proofs.Common.{◌≡◌, ◌≢◌, ℕ, zero, suc, ◌/◌, ◌%◌, ◌⊎◌, ◌==◌, Bool, true, false, cond, List, [], ◌∷◌, ◌++◌, length, inl, inr, refl, sym, ap, ◌∙◌, append-nil, arith}
use Rattle.std.specs.List.{AllByRecursion}
use Rattle.std.specs.Prelude.{drop, slice_index, if◌then◌else◌}
use Rattle.hex.specs.Hex.{lower_digits, encode_lower, encode_with}
use Rattle.wsn_wire.specs.declared.endpoint.Role.{Role}
use Rattle.wsn_wire.specs.declared.endpoint.Role.TheVariants.{Client, Server}
use Rattle.wsn_rules.specs.Entries.{without_cr, bytes_prefix}
use Rattle.wsn_redact.specs.declared.extension_names.Within.{Within}
use Rattle.wsn_redact.specs.declared.extension_names.Within.TheVariants.{Name}
use Rattle.wsn_redact.specs.ExtensionNames.{within_after, is_kept, names_in}
use Rattle.wsn_redact.specs.RedactedCaptures.{extensions_prefix, cr_of}

no_cr : (b : ℕ) → b ≢ 13 → (b == 13) ≡ false
no_cr b other = grind (arith)

is_cr : (b : ℕ) → (b == 13) ≡ true → b ≡ 13
is_cr b is = grind (arith)

-- ---- a line and its CR

-- a CR that was put at the end
cr_off : (text : List ℕ) → without_cr (text ++ 13 ∷ []) ≡ text
cr_off [] = refl
cr_off (b ∷ []) = refl
cr_off (b ∷ c ∷ text) = ap (λ (t : List ℕ). b ∷ t) (cr_off (c ∷ text))

abbrev HasCrOrNot : List ℕ → Type 0
HasCrOrNot line = (cr_of line ≡ 13 ∷ []) ⊎ ((cr_of line ≡ []) × (without_cr line ≡ line))

cr_or_not : (line : List ℕ) → HasCrOrNot line
cr_or_not [] = inr (refl, refl)
cr_or_not (b ∷ []) = by (b == 13) refl
  where
    by : (t : Bool) → (b == 13) ≡ t → HasCrOrNot (b ∷ [])
    by true is = inl (ap (λ (t : Bool). drop (length (cond t [] (b ∷ []))) (b ∷ [])) is ∙ ap (λ (n : ℕ). n ∷ []) (is_cr b is))
    by false is = inr (ap (λ (t : Bool). drop (length (cond t [] (b ∷ []))) (b ∷ [])) is, ap (λ (t : Bool). cond t [] (b ∷ [])) is)
cr_or_not (b ∷ c ∷ line) = elim (cr_or_not (c ∷ line)) [
  | inl is ↦ inl is
  | inr is ↦ inr (is.0, ap (λ (t : List ℕ). b ∷ t) is.1)
]

-- A text that doesn't end with CR, or is that of the line, is what is left of it with the line's CR.
pub text_of_line : (line text : List ℕ) → ((without_cr text ≡ text) ⊎ (text ≡ without_cr line)) → without_cr (text ++ cr_of line) ≡ text
text_of_line line text ends = elim (cr_or_not line) [
  | inl is ↦ ap (λ (cr : List ℕ). without_cr (text ++ cr)) is ∙ cr_off text
  | inr is ↦ ap (λ (cr : List ℕ). without_cr (text ++ cr)) is.0 ∙ ap without_cr (append-nil text) ∙ plain ends is.1
]
  where
    plain : ((without_cr text ≡ text) ⊎ (text ≡ without_cr line)) → without_cr line ≡ line → without_cr text ≡ text
    plain (inl is) all = is
    plain (inr is) all = ap without_cr (is ∙ all) ∙ sym is

-- The CR of a redacted line is the line's.
pub same_cr : (line text : List ℕ) → ((without_cr text ≡ text) ⊎ (text ≡ without_cr line)) → cr_of (text ++ cr_of line) ≡ cr_of line
same_cr line text ends = ap (λ (t : List ℕ). drop (length t) (text ++ cr_of line)) (text_of_line line text ends) ∙ off text
  where
    off : (t : List ℕ) → drop (length t) (t ++ cr_of line) ≡ cr_of line
    off [] = refl
    off (b ∷ t) = off t

-- ---- texts that don't end with CR

pub plain_more : (b : ℕ) (text : List ℕ) → b ≢ 13 → without_cr text ≡ text → without_cr (b ∷ text) ≡ b ∷ text
plain_more b [] other is = ap (λ (t : Bool). cond t [] (b ∷ [])) (no_cr b other)
plain_more b (c ∷ text) other is = ap (λ (t : List ℕ). b ∷ t) is

plain_after : (front text : List ℕ) → without_cr front ≡ front → without_cr text ≡ text → without_cr (front ++ text) ≡ front ++ text
plain_after [] text front_is is = is
plain_after (b ∷ []) [] front_is is = front_is
plain_after (b ∷ []) (c ∷ text) front_is is = ap (λ (t : List ℕ). b ∷ t) is
plain_after (b ∷ c ∷ front) text front_is is = ap (λ (t : List ℕ). b ∷ t) (plain_after (c ∷ front) text (ap (λ (t : List ℕ). drop 1 t) front_is) is)

-- names of extensions
never_kept : (within : Within) → is_kept within 13 ≡ true → ⊥
never_kept Name is = cc
never_kept _ is = cc

names_plain : (within : Within) (list : List ℕ) → without_cr (names_in within list) ≡ names_in within list
names_plain within [] = refl
names_plain within (b ∷ list) = by (is_kept within b) refl (names_plain (within_after within b) list)
  where
    rest : List ℕ
    rest = names_in (within_after within b) list

    by : (t : Bool) → is_kept within b ≡ t → without_cr (names_in (within_after within b) list) ≡ names_in (within_after within b) list → without_cr (names_in within (b ∷ list)) ≡ names_in within (b ∷ list)
    by true is plain =
        let whole : names_in within (b ∷ list) ≡ b ∷ rest = ap (λ (t : Bool). if t then b ∷ rest else rest) is in
        let other : b ≢ 13 = λ same. never_kept within (ap (λ (n : ℕ). is_kept within n) (sym same) ∙ is) in
        ap without_cr whole ∙ plain_more b rest other plain ∙ sym whole
    by false is plain =
        let whole : names_in within (b ∷ list) ≡ rest = ap (λ (t : Bool). if t then b ∷ rest else rest) is in
        ap without_cr whole ∙ plain ∙ sym whole

pub extensions_plain : (within : Within) (list : List ℕ) → without_cr (extensions_prefix ++ names_in within list) ≡ extensions_prefix ++ names_in within list
extensions_plain within list = plain_after extensions_prefix (names_in within list) refl (names_plain within list)

-- hexadecimal digits
no_cr_among : (digits : List ℕ) (n : ℕ) → AllByRecursion (λ b. b ≢ 13) digits → slice_index digits n ≢ 13
no_cr_among [] n all is = omega (arith, is)
no_cr_among (d ∷ digits) zero all is = all.0 is
no_cr_among (d ∷ digits) (suc n) all is = no_cr_among digits n all.1 is

no_cr_digit : (n : ℕ) → slice_index lower_digits n ≢ 13
no_cr_digit n = no_cr_among lower_digits n (λ is. omega (arith, is), (λ is. omega (arith, is), (λ is. omega (arith, is), (λ is. omega (arith, is), (λ is. omega (arith, is), (λ is. omega (arith, is), (λ is. omega (arith, is), (λ is. omega (arith, is), (λ is. omega (arith, is), (λ is. omega (arith, is), (λ is. omega (arith, is), (λ is. omega (arith, is), (λ is. omega (arith, is), (λ is. omega (arith, is), (λ is. omega (arith, is), (λ is. omega (arith, is), tt))))))))))))))))

hex_plain : (bytes : List ℕ) → without_cr (encode_lower bytes) ≡ encode_lower bytes
unfolding encode_with
hex_plain [] = refl
hex_plain (b ∷ bytes) =
    plain_more (slice_index lower_digits (b / 16)) (slice_index lower_digits (b % 16) ∷ encode_lower bytes) (no_cr_digit (b / 16))
    (plain_more (slice_index lower_digits (b % 16)) (encode_lower bytes) (no_cr_digit (b % 16)) (hex_plain bytes))

prefix_plain : (role : Role) → without_cr (bytes_prefix role) ≡ bytes_prefix role
prefix_plain Client = refl
prefix_plain Server = refl

pub bytes_plain : (role : Role) (bytes : List ℕ) → without_cr (bytes_prefix role ++ encode_lower bytes) ≡ bytes_prefix role ++ encode_lower bytes
bytes_plain role bytes = plain_after (bytes_prefix role) (encode_lower bytes) (prefix_plain role) (hex_plain bytes)
