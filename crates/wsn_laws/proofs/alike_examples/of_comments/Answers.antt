use Rattle.std.proofs.Common.{◌≡◌, ◌≢◌, ℕ, suc, ◌<◌, ◌≤◌, List, [], ◌∷◌, ◌++◌, length, inl, inr, refl, sym, ap, ◌∙◌, arith}
use Rattle.std.specs.Prelude.{codes}
use Rattle.std.specs.List.{AllByRecursion, slice_index}
use Rattle.std.proofs.lemmas.List.{append_cancel_left}
use Rattle.wsn_rules.specs.ShownCapture.{IsDigit, IsSeconds}
use Rattle.wsn_redact.specs.declared.extension_names.Within.TheVariants.{Name}
use Rattle.wsn_redact.specs.ExtensionNames.{names_in}
use Rattle.wsn_redact.specs.RedactedCaptures.{extensions_prefix, Stays, SaysElse}
use Rattle.wsn_laws.proofs.alike_examples.of_comments.Goals as goal

-- A comment whose text begins with neither a digit, `e` nor `r`.
no_digit : (c : ℕ) (rest seconds whole fraction : List ℕ) → 0x39 < c → 1 ≤ length whole → AllByRecursion IsDigit whole → seconds ≡ whole ++ codes "." ++ fraction → seconds ≡ c ∷ rest → ⊥
no_digit c rest seconds [] fraction above some digits is same = omega (arith, some)
no_digit c rest seconds (d ∷ whole) fraction above some digits is same =
    let first : d ≡ c = ap (λ (l : List ℕ). slice_index l 0) (sym is ∙ same) in
    let most = digits.0.1 in
    omega (arith, first, most, above)

no_time : (c : ℕ) (rest seconds : List ℕ) → 0x39 < c → IsSeconds seconds → codes "# " ++ c ∷ rest ≡ codes "# " ++ seconds → ⊥
no_time c rest seconds above is same = no_digit c rest seconds is.whole is.fraction above is.whole_is.some is.whole_is.digits is.is (sym (append_cancel_left (codes "# ") (c ∷ rest) seconds same))

says_else : (c : ℕ) (rest : List ℕ) → 0x39 < c → c ≢ 101 → c ≢ 114 → SaysElse (codes "# " ++ c ∷ rest)
says_else c rest above no_e no_r = (
  λ none. let size : suc (suc (suc (length rest))) ≡ 0 = ap (λ (l : List ℕ). length l) none in omega (arith, size),
  stays,
  λ list has. no_e (ap (λ (l : List ℕ). slice_index l 2) has),
)
  where
    stays : Stays (codes "# " ++ c ∷ rest) → ⊥
    stays (inl (seconds, gives)) = no_time c rest seconds above gives.1 gives.0
    stays (inr (inl is)) = no_r (ap (λ (l : List ℕ). slice_index l 2) is)
    stays (inr (inr is)) = no_r (ap (λ (l : List ℕ). slice_index l 2) is)

one_digit : (d e : ℕ) → 48 ≤ d → d ≤ 57 → 48 ≤ e → e ≤ 57 → IsSeconds (d ∷ codes "." ++ e ∷ [])
one_digit d e low high from to = record {
  whole = d ∷ [];
  fraction = e ∷ [];
  is = refl;
  whole_is = record {
    digits = ((low, high), tt);
    some = omega arith;
    no_leading_zero = λ digit following is. let size : 1 ≡ suc (suc (length following)) = ap (λ (l : List ℕ). length l) is in omega (arith, size);
  };
  fraction_is = record { digits = ((from, to), tt); some = omega arith; few = omega arith };
}

pub returns-clause-values : goal.returns-clause-values
returns-clause-values c = inr (inl (codes "a; key=secret", codes "a; key=42", refl, refl, refl))

pub returns-clause-names : goal.returns-clause-names
returns-clause-names c (inl (stays, same)) = let byte : ◌≡◌ {A = ℕ} 0x61 0x62 = ap (λ (l : List ℕ). slice_index l 14) same in omega (arith, byte)
returns-clause-names c (inr (inl (list, other, has, other_has, same))) =
    let one : codes "a" ≡ list = append_cancel_left extensions_prefix (codes "a") list has in
    let two : codes "b" ≡ other = append_cancel_left extensions_prefix (codes "b") other other_has in
    let byte : ◌≡◌ {A = ℕ} 0x61 0x62 = ap (λ (l : List ℕ). slice_index (names_in Name l) 0) one ∙ ap (λ (l : List ℕ). slice_index l 0) same ∙ sym (ap (λ (l : List ℕ). slice_index (names_in Name l) 0) two) in
    omega (arith, byte)
returns-clause-names c (inr (inr (says, other_says))) = says.2 (codes "a") refl

pub returns-clause-times : goal.returns-clause-times
returns-clause-times c (inl (stays, same)) = let byte : ◌≡◌ {A = ℕ} 0x31 0x32 = ap (λ (l : List ℕ). slice_index l 2) same in omega (arith, byte)
returns-clause-times c (inr (inl (list, other, has, other_has, same))) = let byte : ◌≡◌ {A = ℕ} 0x31 0x65 = ap (λ (l : List ℕ). slice_index l 2) has in omega (arith, byte)
returns-clause-times c (inr (inr (says, other_says))) = says.1 (inl (codes "1.5", (refl, one_digit 0x31 0x35 (omega arith) (omega arith) (omega arith) (omega arith))))

pub returns-clause-others : goal.returns-clause-others
returns-clause-others c =
    inr (inr (
      says_else 0x70 (codes "ath: /login?token=abc") (omega arith) (λ is. omega (arith, is)) (λ is. omega (arith, is)),
      says_else 0x63 (codes "ookie: id=1234567") (omega arith) (λ is. omega (arith, is)) (λ is. omega (arith, is)),
    ))
