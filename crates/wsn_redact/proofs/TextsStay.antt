-- The redaction of a text begins text, is text, or goes wrong at its last byte exactly if the text does.
use Rattle.std.proofs.Common.{◌≡◌, ℕ, suc, ◌<◌, ◌≤◌, ◌⊎◌, ◌==◌, List, [], ◌∷◌, ◌++◌, length, take, drop, if◌then◌else◌, inl, inr, refl, sym, ap, ◌∙◌, subst, append-nil, append_assoc, length-append, arith}
use Rattle.std.specs.Prelude.{◌↔◌}
use Rattle.std.specs.List.{AllByRecursion, concat, flat_map, slice_index}
use Rattle.std.proofs.lemmas.Bool.{cases_lt}
use Rattle.std.proofs.lemmas.Grind.{common_steps}
use Rattle.std.proofs.lemmas.List.{length-take-le}
use Rattle.wsn_text.specs.Utf8.{Range, ◌–◌, FitsRow, IsCharacter, IsText, BeginsText}
use Rattle.wsn_text.proofs.Rests.{any, text-nil, after_ascii}
use Rattle.wsn_text.proofs.Prefixes.{text-append, text_begins}
use Rattle.wsn_text.proofs.Boundaries.{text_after}
use Rattle.wsn_print.specs.EscapedText.{is_from}
use Rattle.wsn_redact.specs.StandIns.{single_stand_in, stand_in, stand_in_of, BeginsCharacter, IsRedactedText, IsRedactedToBad, IsRedacted, stood}
use Rattle.wsn_redact.proofs.StoodTexts.{count_row, stand_in_some, stand_in_length, is_stood, stood_is, redacted_begins}
use Rattle.wsn_redact.proofs.RedactedLawful.{two_low, single_low, row_e0, row_ed, row_e1, row_ee, row_f0, row_f1, row_f4, characters_fit, text_stays, beginning_stays}

-- ---- the ranges of the bytes after the first one

abbrev conts : ℕ → List Range
conts b =
    if is_from 0xC2 0xDF b then any ∷ []
    else (if b == 0xE0 then (0xA0 – 0xBF) ∷ any ∷ []
    else (if b == 0xED then (0x80 – 0x9F) ∷ any ∷ []
    else (if is_from 0xE1 0xEF b then any ∷ any ∷ []
    else (if b == 0xF0 then (0x90 – 0xBF) ∷ any ∷ any ∷ []
    else (if is_from 0xF1 0xF3 b then any ∷ any ∷ any ∷ []
    else (if b == 0xF4 then (0x80 – 0x8F) ∷ any ∷ any ∷ []
    else []))))))

none_after : (b : ℕ) → b ≤ 0x7F → conts b ≡ []
none_after b to = grind (arith, common_steps)

one_after : (b : ℕ) → 0xC2 ≤ b → b ≤ 0xDF → conts b ≡ any ∷ []
one_after b from to = grind (arith, common_steps)

two_after : (b : ℕ) → 0xE1 ≤ b → b ≤ 0xEC → conts b ≡ any ∷ any ∷ []
two_after b from to = grind (arith, common_steps)

two_after_too : (b : ℕ) → 0xEE ≤ b → b ≤ 0xEF → conts b ≡ any ∷ any ∷ []
two_after_too b from to = grind (arith, common_steps)

three_after : (b : ℕ) → 0xF1 ≤ b → b ≤ 0xF3 → conts b ≡ any ∷ any ∷ any ∷ []
three_after b from to = grind (arith, common_steps)

e0 : (b : ℕ) → 0xE0 ≤ b → b ≤ 0xE0 → b ≡ 0xE0
e0 b from to = omega (arith, from, to)

ed : (b : ℕ) → 0xED ≤ b → b ≤ 0xED → b ≡ 0xED
ed b from to = omega (arith, from, to)

f0 : (b : ℕ) → 0xF0 ≤ b → b ≤ 0xF0 → b ≡ 0xF0
f0 b from to = omega (arith, from, to)

f4 : (b : ℕ) → 0xF4 ≤ b → b ≤ 0xF4 → b ≡ 0xF4
f4 b from to = omega (arith, from, to)

-- What a character's first byte says of it: the others fit its ranges, which its stand-in has too; and bytes that fit
-- them make a character.
record Leads (b : ℕ) : Type 0 where
  low : AllByRecursion (λ (r : Range). 0x80 ≤ r.low) (conts b)
  same : conts (slice_index (stand_in b) 0) ≡ conts b
  makes : (rest : List ℕ) → FitsRow (conts b) rest → IsCharacter (b ∷ rest)

lead_of : (b : ℕ) (row : List Range) → conts b ≡ row → AllByRecursion (λ (r : Range). 0x80 ≤ r.low) row → (front : List ℕ) → stand_in b ≡ front → conts (slice_index front 0) ≡ row → ((rest : List ℕ) → FitsRow row rest → IsCharacter (b ∷ rest)) → Leads b
lead_of b row is low front stand same makes = record {
  low = subst (λ (rs : List Range). AllByRecursion (λ (r : Range). 0x80 ≤ r.low) rs) (sym is) low;
  same = ap (λ (bs : List ℕ). conts (slice_index bs 0)) stand ∙ same ∙ sym is;
  makes = λ rest fits. makes rest (subst (λ (rs : List Range). FitsRow rs rest) is fits);
}

any_low : 0x80 ≤ any.low
any_low = omega arith

leads : (b : ℕ) (rest : List ℕ) → IsCharacter (b ∷ rest) → Leads b × FitsRow (conts b) rest
leads b rest (inl fits) =
    let is = none_after b fits.1 in
    let s = single_low b fits.1 in (
      lead_of b [] is tt (s.0 ∷ []) s.1 (none_after s.0 s.2) (λ other h. inl (fits.0, fits.1, h)),
      subst (λ (rs : List Range). FitsRow rs rest) (sym is) fits.2,
    )
leads b rest (inr (inl fits)) =
    let is = one_after b fits.0 fits.1 in
    (lead_of b (any ∷ []) is (any_low, tt) (0xC3 ∷ 0xA9 ∷ []) (two_low b fits.0 fits.1) refl (λ other h. inr (inl (fits.0, fits.1, h))), subst (λ (rs : List Range). FitsRow rs rest) (sym is) fits.2)
leads b rest (inr (inr (inl fits))) =
    let here = e0 b fits.0 fits.1 in
    let is : conts b ≡ (0xA0 – 0xBF) ∷ any ∷ [] = ap conts here in
    (lead_of b ((0xA0 – 0xBF) ∷ any ∷ []) is (omega arith, (any_low, tt)) (0xE0 ∷ 0xA0 ∷ 0x80 ∷ []) (row_e0 b here) refl (λ other h. inr (inr (inl (fits.0, fits.1, h)))), subst (λ (rs : List Range). FitsRow rs rest) (sym is) fits.2)
leads b rest (inr (inr (inr (inl fits)))) =
    let is = two_after b fits.0 fits.1 in
    (lead_of b (any ∷ any ∷ []) is (any_low, (any_low, tt)) (0xE2 ∷ 0x82 ∷ 0xAC ∷ []) (row_e1 b fits.0 fits.1) refl (λ other h. inr (inr (inr (inl (fits.0, fits.1, h))))), subst (λ (rs : List Range). FitsRow rs rest) (sym is) fits.2)
leads b rest (inr (inr (inr (inr (inl fits))))) =
    let here = ed b fits.0 fits.1 in
    let is : conts b ≡ (0x80 – 0x9F) ∷ any ∷ [] = ap conts here in
    (lead_of b ((0x80 – 0x9F) ∷ any ∷ []) is (omega arith, (any_low, tt)) (0xED ∷ 0x80 ∷ 0x80 ∷ []) (row_ed b here) refl (λ other h. inr (inr (inr (inr (inl (fits.0, fits.1, h)))))), subst (λ (rs : List Range). FitsRow rs rest) (sym is) fits.2)
leads b rest (inr (inr (inr (inr (inr (inl fits)))))) =
    let is = two_after_too b fits.0 fits.1 in
    (lead_of b (any ∷ any ∷ []) is (any_low, (any_low, tt)) (0xE2 ∷ 0x82 ∷ 0xAC ∷ []) (row_ee b fits.0 fits.1) refl (λ other h. inr (inr (inr (inr (inr (inl (fits.0, fits.1, h))))))), subst (λ (rs : List Range). FitsRow rs rest) (sym is) fits.2)
leads b rest (inr (inr (inr (inr (inr (inr (inl fits))))))) =
    let here = f0 b fits.0 fits.1 in
    let is : conts b ≡ (0x90 – 0xBF) ∷ any ∷ any ∷ [] = ap conts here in
    (lead_of b ((0x90 – 0xBF) ∷ any ∷ any ∷ []) is (omega arith, (any_low, (any_low, tt))) (0xF0 ∷ 0x90 ∷ 0x80 ∷ 0x80 ∷ []) (row_f0 b here) refl (λ other h. inr (inr (inr (inr (inr (inr (inl (fits.0, fits.1, h)))))))), subst (λ (rs : List Range). FitsRow rs rest) (sym is) fits.2)
leads b rest (inr (inr (inr (inr (inr (inr (inr (inl fits)))))))) =
    let is = three_after b fits.0 fits.1 in
    (lead_of b (any ∷ any ∷ any ∷ []) is (any_low, (any_low, (any_low, tt))) (0xF1 ∷ 0x80 ∷ 0x80 ∷ 0x80 ∷ []) (row_f1 b fits.0 fits.1) refl (λ other h. inr (inr (inr (inr (inr (inr (inr (inl (fits.0, fits.1, h))))))))), subst (λ (rs : List Range). FitsRow rs rest) (sym is) fits.2)
leads b rest (inr (inr (inr (inr (inr (inr (inr (inr (inl fits))))))))) =
    let here = f4 b fits.0 fits.1 in
    let is : conts b ≡ (0x80 – 0x8F) ∷ any ∷ any ∷ [] = ap conts here in
    (lead_of b ((0x80 – 0x8F) ∷ any ∷ any ∷ []) is (omega arith, (any_low, (any_low, tt))) (0xF4 ∷ 0x80 ∷ 0x80 ∷ 0x80 ∷ []) (row_f4 b here) refl (λ other h. inr (inr (inr (inr (inr (inr (inr (inr (inl (fits.0, fits.1, h)))))))))), subst (λ (rs : List Range). FitsRow rs rest) (sym is) fits.2)
leads b rest (inr (inr (inr (inr (inr (inr (inr (inr (inr none))))))))) = absurd none

-- ---- the character with which a text begins

record BeginsWith (b : ℕ) (bytes : List ℕ) : Type 0 where
  rest : List ℕ
  others : List ℕ
  fits : FitsRow (conts b) rest
  is : bytes ≡ rest ++ others

begins_with : (b : ℕ) (bytes : List ℕ) → IsText (b ∷ bytes) → BeginsWith b bytes
begins_with b bytes text = by text.characters text.each text.whole
  where
    by : (characters : List (List ℕ)) → AllByRecursion IsCharacter characters → b ∷ bytes ≡ concat characters → BeginsWith b bytes
    by [] each whole = absurd cc
    by ([] ∷ cs) each whole = by cs each.1 whole
    by ((c ∷ rest) ∷ cs) each whole =
        let first : b ≡ c = cc in
        let following : bytes ≡ rest ++ concat cs = cc in
        record { rest = rest; others = concat cs; fits = subst (λ (d : ℕ). FitsRow (conts d) rest) (sym first) (leads c rest each.0).1; is = following }

-- A byte in place of one of a character's.
record IsSpliced (row : List Range) (front missing : List ℕ) (x : ℕ) : Type 0 where
  low : 0x80 ≤ x
  fits : FitsRow row (front ++ x ∷ drop 1 missing)

splice : (row : List Range) (front missing rest others other_front more : List ℕ) (x : ℕ) → AllByRecursion (λ (r : Range). 0x80 ≤ r.low) row → FitsRow row (front ++ missing) → FitsRow row rest → length front < length row → length other_front ≡ length front → rest ++ others ≡ other_front ++ x ∷ more → IsSpliced row front missing x
splice [] front missing rest others other_front more x low fits other short same is = absurd (omega (arith, short))
splice (r ∷ row) [] [] rest others other_front more x low fits other short same is = absurd fits
splice (r ∷ row) [] (m ∷ missing) [] others other_front more x low fits other short same is = absurd other
splice (r ∷ row) [] (m ∷ missing) (c ∷ rest) others [] more x low fits other short same is =
    let here : c ≡ x = cc in
    let from = other.0 in
    let least = low.0 in
    record { low = omega (arith, here, from, least); fits = (subst (λ (d : ℕ). r.low ≤ d) here other.0, subst (λ (d : ℕ). d ≤ r.high) here other.1, fits.2) }
splice (r ∷ row) [] (m ∷ missing) (c ∷ rest) others (d ∷ other_front) more x low fits other short same is = absurd (omega (arith, same))
splice (r ∷ row) (a ∷ front) missing [] others other_front more x low fits other short same is = absurd other
splice (r ∷ row) (a ∷ front) missing (c ∷ rest) others [] more x low fits other short same is = absurd (omega (arith, same))
splice (r ∷ row) (a ∷ front) missing (c ∷ rest) others (d ∷ other_front) more x low fits other short same is =
    let following : rest ++ others ≡ other_front ++ x ∷ more = cc in
    let s = splice row front missing rest others other_front more x low.1 fits.2 other.2 (omega (arith, short)) (omega (arith, same)) following in
    record { low = s.low; fits = (fits.0, fits.1, s.fits) }

single_high : (b : ℕ) → 0x80 ≤ single_stand_in b → single_stand_in b ≡ b
single_high b from = grind (arith, common_steps)

single_of_high : (b : ℕ) → 0x80 ≤ b → single_stand_in b ≡ b
single_of_high b from = grind (arith, common_steps)

-- ---- a text that is whole, or ends inside a character

record IsOpenText (text : List ℕ) : Type 0 where
  characters : List (List ℕ)
  each : AllByRecursion IsCharacter characters
  b : ℕ
  bytes : List ℕ
  m : ℕ
  missing : List ℕ
  fits : IsCharacter (b ∷ (bytes ++ m ∷ missing))
  is : text ≡ concat characters ++ b ∷ bytes
  stood_is_this : stood [] text ≡ flat_map stand_in_of characters ++ take (suc (length bytes)) (stand_in b)

whole_or_open : (text : List ℕ) → BeginsText text → IsText text ⊎ IsOpenText text
whole_or_open text begins = by s.begun s.begins s.text_is s.redacted_is
  where
    s : IsRedactedText text (stood [] text)
    s = stood_is text begins

    all : IsText (concat s.characters)
    all = record { characters = s.characters; each = s.each; whole = refl }

    by_missing : (b : ℕ) (bytes missing : List ℕ) → IsCharacter (b ∷ (bytes ++ missing)) → text ≡ concat s.characters ++ b ∷ bytes → stood [] text ≡ flat_map stand_in_of s.characters ++ take (suc (length bytes)) (stand_in b) → IsText text ⊎ IsOpenText text
    by_missing b bytes [] fits is written =
        let one : IsText (b ∷ bytes) = record { characters = (b ∷ bytes) ∷ []; each = (subst (λ (bs : List ℕ). IsCharacter (b ∷ bs)) (append-nil bytes) fits, tt); whole = sym (append-nil (b ∷ bytes)) } in
        inl (subst IsText (sym is) (text-append (concat s.characters) (b ∷ bytes) all one))
    by_missing b bytes (m ∷ missing) fits is written = inr (record { characters = s.characters; each = s.each; b = b; bytes = bytes; m = m; missing = missing; fits = fits; is = is; stood_is_this = written })

    by : (begun : List ℕ) → BeginsCharacter begun → text ≡ concat s.characters ++ begun → stood [] text ≡ flat_map stand_in_of s.characters ++ take (length begun) (stand_in_of begun) → IsText text ⊎ IsOpenText text
    by [] c is written = inl (subst IsText (sym (is ∙ append-nil (concat s.characters))) all)
    by (b ∷ bytes) c is written = by_missing b bytes c.0 c.1 is written

-- The first bytes of a stand-in, and then others, as text.
record IsInside (o : ℕ) (bytes : List ℕ) (missing following : List ℕ) : Type 0 where
  front : List ℕ
  begun : BeginsWith o (front ++ following)
  size : length front ≡ length bytes
  few : length bytes < length (conts o)
  row : FitsRow (conts o) (bytes ++ missing)
  low : AllByRecursion (λ (r : Range). 0x80 ≤ r.low) (conts o)
  makes : (rest : List ℕ) → FitsRow (conts o) rest → IsCharacter (o ∷ rest)

inside : (b : ℕ) (bytes : List ℕ) (m : ℕ) (missing following : List ℕ) → IsCharacter (b ∷ (bytes ++ m ∷ missing)) → IsText (take (suc (length bytes)) (stand_in b) ++ following) → IsInside b bytes (m ∷ missing) following
inside b bytes m missing following fits text = by (stand_in b) refl
  where
    by : (stand : List ℕ) → stand_in b ≡ stand → IsInside b bytes (m ∷ missing) following
    by [] is = let some = stand_in_some b in let none = ap (λ (bs : List ℕ). length bs) is in absurd (omega (arith, some, none))
    by (h ∷ t) is =
        let l = leads b (bytes ++ m ∷ missing) fits in
        let same : conts h ≡ conts b = sym (ap (λ (bs : List ℕ). conts (slice_index bs 0)) is) ∙ l.0.same in
        let length_is = stand_in_length (b ∷ (bytes ++ m ∷ missing)) fits in
        let sizes = ap (λ (bs : List ℕ). length bs) is in
        let here : IsText (h ∷ (take (length bytes) t ++ following)) = subst (λ (bs : List ℕ). IsText (take (suc (length bytes)) bs ++ following)) is text in
        let w = begins_with h (take (length bytes) t ++ following) here in
        let row = count_row (conts b) (bytes ++ m ∷ missing) l.1 in
        record {
          front = take (length bytes) t;
          begun = record { rest = w.rest; others = w.others; fits = subst (λ (rs : List Range). FitsRow rs w.rest) same w.fits; is = w.is };
          size = length-take-le (length bytes) t (omega (arith, length_is, sizes, length-append bytes (m ∷ missing)));
          few = omega (arith, row, length-append bytes (m ∷ missing));
          row = l.1;
          low = l.0.low;
          makes = l.0.makes;
        }

-- ---- what stays

module _ (front : List ℕ) (bad : ℕ) (goes_wrong : BeginsText (front ++ bad ∷ []) → ⊥) (x : ℕ) (x_is : single_stand_in bad ≡ x) (begins : BeginsText (stood [] front ++ x ∷ [])) where
  abbrev more : List ℕ
  more = begins.more

  after_whole : IsText front → ⊥
  after_whole text =
      let there : IsText (x ∷ begins.more) = text_after (stood [] front) (x ∷ begins.more) (text_stays front text) (subst IsText (append_assoc (stood [] front) (x ∷ []) begins.more) begins.text) in
      elim (cases_lt bad 0x80) [
        | inl small ↦ goes_wrong (text_begins (front ++ bad ∷ []) (text-append front (bad ∷ []) text ((after_ascii bad (omega (arith, small)) []).1 text-nil)))
        | inr large ↦
            let same : x ≡ bad = sym x_is ∙ single_of_high bad large in
            goes_wrong (record { more = begins.more; text = subst IsText (sym (append_assoc front (bad ∷ []) begins.more)) (text-append front (bad ∷ begins.more) text (subst (λ (y : ℕ). IsText (y ∷ begins.more)) same there)) })
      ]

  after_open : IsOpenText front → ⊥
  after_open o =
      let cs = flat_map stand_in_of o.characters in
      let part = take (suc (length o.bytes)) (stand_in o.b) in
      let all : (stood [] front ++ x ∷ []) ++ begins.more ≡ cs ++ (part ++ x ∷ begins.more) =
      append_assoc (stood [] front) (x ∷ []) begins.more ∙ ap (λ (bs : List ℕ). bs ++ x ∷ begins.more) o.stood_is_this ∙ append_assoc cs part (x ∷ begins.more) in
      let there : IsText (part ++ x ∷ begins.more) = text_after cs (part ++ x ∷ begins.more) (characters_fit o.characters o.each) (subst IsText all begins.text) in
      let i = inside o.b o.bytes o.m o.missing (x ∷ begins.more) o.fits there in
      let s = splice (conts o.b) o.bytes (o.m ∷ o.missing) i.begun.rest i.begun.others i.front begins.more x i.low i.row i.begun.fits i.few i.size (sym i.begun.is) in
      let high = s.low in
      let same : x ≡ bad = sym x_is ∙ single_high bad (subst (λ (y : ℕ). 0x80 ≤ y) (sym x_is) high) in
      let character : IsCharacter (o.b ∷ (o.bytes ++ bad ∷ o.missing)) = i.makes (o.bytes ++ bad ∷ o.missing) (subst (λ (y : ℕ). FitsRow (conts o.b) (o.bytes ++ y ∷ o.missing)) same s.fits) in
      let one : IsText (o.b ∷ (o.bytes ++ bad ∷ o.missing)) = record { characters = (o.b ∷ (o.bytes ++ bad ∷ o.missing)) ∷ []; each = (character, tt); whole = sym (append-nil (o.b ∷ (o.bytes ++ bad ∷ o.missing))) } in
      let whole : IsText (concat o.characters ++ (o.b ∷ (o.bytes ++ bad ∷ o.missing))) = text-append (concat o.characters) (o.b ∷ (o.bytes ++ bad ∷ o.missing)) (record { characters = o.characters; each = o.each; whole = refl }) one in
      let joined : concat o.characters ++ (o.b ∷ (o.bytes ++ bad ∷ o.missing)) ≡ (front ++ bad ∷ []) ++ o.missing =
      sym (append_assoc front (bad ∷ []) o.missing ∙ ap (λ (bs : List ℕ). bs ++ bad ∷ o.missing) o.is ∙ append_assoc (concat o.characters) (o.b ∷ o.bytes) (bad ∷ o.missing)) in
      goes_wrong (record { more = o.missing; text = subst IsText joined whole })

  pub stays_wrong : BeginsText front → ⊥
  stays_wrong good = elim (whole_or_open front good) [ inl whole ↦ after_whole whole | inr o ↦ after_open o ]

-- A text that ends inside a character still does.
pub text_back : (text : List ℕ) → BeginsText text → IsText (stood [] text) → IsText text
text_back text begins stays = elim (whole_or_open text begins) [
  | inl whole ↦ whole
  | inr o ↦
      let cs = flat_map stand_in_of o.characters in
      let part = take (suc (length o.bytes)) (stand_in o.b) in
      let there : IsText part = text_after cs part (characters_fit o.characters o.each) (subst IsText o.stood_is_this stays) in
      let i = inside o.b o.bytes o.m o.missing [] o.fits (subst IsText (sym (append-nil part)) there) in
      let row = count_row (conts o.b) i.begun.rest i.begun.fits in
      let size = ap (λ (bs : List ℕ). length bs) (sym (append-nil i.front) ∙ i.begun.is) in
      let same = i.size in
      let few = i.few in
      absurd (omega (arith, row, size, same, few, length-append i.begun.rest i.begun.others))
]

wrong_stays : (text redacted : List ℕ) → IsRedactedToBad text redacted → BeginsText redacted → ⊥
wrong_stays text redacted r begins =
    let front_is = is_stood r.front r.front_redacted r.is_front in
    let all : redacted ≡ stood [] r.front ++ single_stand_in r.bad ∷ [] = r.redacted_is ∙ ap (λ (bs : List ℕ). bs ++ single_stand_in r.bad ∷ []) front_is in
    stays_wrong r.front r.bad (λ good. r.goes_wrong (subst BeginsText (sym r.text_is) good)) (single_stand_in r.bad) refl (subst BeginsText all begins) (redacted_begins r.front r.front_redacted r.is_front)

pub begins_alike : (text redacted : List ℕ) → IsRedacted text redacted → BeginsText text ↔ BeginsText redacted
begins_alike text redacted (inl r) = (λ good. subst BeginsText (sym (is_stood text redacted r)) (beginning_stays text good), λ good. redacted_begins text redacted r)
begins_alike text redacted (inr r) = (λ good. absurd (r.goes_wrong good), λ good. absurd (wrong_stays text redacted r good))

pub text_alike : (text redacted : List ℕ) → IsRedacted text redacted → IsText text ↔ IsText redacted
text_alike text redacted (inl r) =
    let is = is_stood text redacted r in
    (λ whole. subst IsText (sym is) (text_stays text whole), λ whole. text_back text (redacted_begins text redacted r) (subst IsText is whole))
text_alike text redacted (inr r) = (λ whole. absurd (r.goes_wrong (text_begins text whole)), λ whole. absurd (wrong_stays text redacted r (text_begins redacted whole)))
