-- Lawful frames stay lawful when they are redacted.
use Rattle.std.proofs.Common.{◌≡◌, ℕ, ◌<◌, ◌≤◌, List, [], ◌∷◌, ◌++◌, drop, inl, inr, refl, sym, ap, ◌∙◌, subst, append-nil, arith}
use Rattle.std.specs.List.{AllByRecursion, concat, flat_map, slice_index}
use Rattle.wsn_text.proofs.Rests.{text_push}
use Rattle.std.proofs.lemmas.Grind.{common_steps}
use Rattle.wsn_wire.specs.Frame.{IsBytes}
use Rattle.wsn_text.specs.Utf8.{IsCharacter, IsText, BeginsText}
use Rattle.wsn_redact.specs.StandIns.{single_stand_in, stand_in, stand_in_of, stood, due_at, due_after}
use Rattle.wsn_redact.specs.Redaction.{zeros_for}
use Rattle.wsn_redact.proofs.StoodTexts.{stood-append, text_stood, none_begun}

-- ---- a text stays one

pub two_low : (b : ℕ) → 0xC2 ≤ b → b ≤ 0xDF → stand_in b ≡ 0xC3 ∷ 0xA9 ∷ []
two_low b from to = grind (arith, common_steps)

pub single_low : (b : ℕ) → b ≤ 0x7F → (x : ℕ) × (stand_in b ≡ x ∷ []) × (x ≤ 0x7F)
single_low b to = (single_stand_in b, single_is, small)
  where
    single_is : stand_in b ≡ single_stand_in b ∷ []
    single_is = grind (arith, common_steps)

    small : single_stand_in b ≤ 0x7F
    small = grind (arith, common_steps)

pub row_e0 : (b : ℕ) → b ≡ 0xE0 → stand_in b ≡ 0xE0 ∷ 0xA0 ∷ 0x80 ∷ []
row_e0 b is = ap stand_in is

pub row_ed : (b : ℕ) → b ≡ 0xED → stand_in b ≡ 0xED ∷ 0x80 ∷ 0x80 ∷ []
row_ed b is = ap stand_in is

pub row_e1 : (b : ℕ) → 0xE1 ≤ b → b ≤ 0xEC → stand_in b ≡ 0xE2 ∷ 0x82 ∷ 0xAC ∷ []
row_e1 b from to = grind (arith, common_steps)

pub row_ee : (b : ℕ) → 0xEE ≤ b → b ≤ 0xEF → stand_in b ≡ 0xE2 ∷ 0x82 ∷ 0xAC ∷ []
row_ee b from to = grind (arith, common_steps)

pub row_f0 : (b : ℕ) → b ≡ 0xF0 → stand_in b ≡ 0xF0 ∷ 0x90 ∷ 0x80 ∷ 0x80 ∷ []
row_f0 b is = ap stand_in is

pub row_f1 : (b : ℕ) → 0xF1 ≤ b → b ≤ 0xF3 → stand_in b ≡ 0xF1 ∷ 0x80 ∷ 0x80 ∷ 0x80 ∷ []
row_f1 b from to = grind (arith, common_steps)

pub row_f4 : (b : ℕ) → b ≡ 0xF4 → stand_in b ≡ 0xF4 ∷ 0x80 ∷ 0x80 ∷ 0x80 ∷ []
row_f4 b is = ap stand_in is

-- The stand-in of a character is one.
stand_in_fits : (b : ℕ) (rest : List ℕ) → IsCharacter (b ∷ rest) → IsCharacter (stand_in b)
stand_in_fits b rest (inl fits) = let s = single_low b fits.1 in let low = s.2 in subst IsCharacter (sym s.1) (inl (omega arith, omega (arith, low), tt))
stand_in_fits b rest (inr (inl fits)) = subst IsCharacter (sym (two_low b fits.0 fits.1)) (inr (inl (omega arith, omega arith, (omega arith, omega arith, tt))))
stand_in_fits b rest (inr (inr (inl fits))) =
    let from = fits.0 in let to = fits.1 in
    subst IsCharacter (sym (row_e0 b (omega (arith, from, to)))) (inr (inr (inl (omega arith, omega arith, (omega arith, omega arith, (omega arith, omega arith, tt))))))
stand_in_fits b rest (inr (inr (inr (inl fits)))) = subst IsCharacter (sym (row_e1 b fits.0 fits.1)) (inr (inr (inr (inl (omega arith, omega arith, (omega arith, omega arith, (omega arith, omega arith, tt)))))))
stand_in_fits b rest (inr (inr (inr (inr (inl fits))))) =
    let from = fits.0 in let to = fits.1 in
    subst IsCharacter (sym (row_ed b (omega (arith, from, to)))) (inr (inr (inr (inr (inl (omega arith, omega arith, (omega arith, omega arith, (omega arith, omega arith, tt))))))))
stand_in_fits b rest (inr (inr (inr (inr (inr (inl fits)))))) = subst IsCharacter (sym (row_ee b fits.0 fits.1)) (inr (inr (inr (inl (omega arith, omega arith, (omega arith, omega arith, (omega arith, omega arith, tt)))))))
stand_in_fits b rest (inr (inr (inr (inr (inr (inr (inl fits))))))) =
    let from = fits.0 in let to = fits.1 in
    subst IsCharacter (sym (row_f0 b (omega (arith, from, to)))) (inr (inr (inr (inr (inr (inr (inl (omega arith, omega arith, (omega arith, omega arith, (omega arith, omega arith, (omega arith, omega arith, tt)))))))))))
stand_in_fits b rest (inr (inr (inr (inr (inr (inr (inr (inl fits)))))))) =
    subst IsCharacter (sym (row_f1 b fits.0 fits.1)) (inr (inr (inr (inr (inr (inr (inr (inl (omega arith, omega arith, (omega arith, omega arith, (omega arith, omega arith, (omega arith, omega arith, tt))))))))))))
stand_in_fits b rest (inr (inr (inr (inr (inr (inr (inr (inr (inl fits))))))))) =
    let from = fits.0 in let to = fits.1 in
    subst IsCharacter (sym (row_f4 b (omega (arith, from, to)))) (inr (inr (inr (inr (inr (inr (inr (inr (inl (omega arith, omega arith, (omega arith, omega arith, (omega arith, omega arith, (omega arith, omega arith, tt)))))))))))))
stand_in_fits b rest (inr (inr (inr (inr (inr (inr (inr (inr (inr none))))))))) = absurd none

pub character_fits : (character : List ℕ) → IsCharacter character → IsCharacter (stand_in_of character)
character_fits [] fits = fits
character_fits (b ∷ rest) fits = stand_in_fits b rest fits

pub characters_fit : (characters : List (List ℕ)) → AllByRecursion IsCharacter characters → IsText (flat_map stand_in_of characters)
characters_fit [] each = record { characters = []; each = tt; whole = refl }
characters_fit (c ∷ cs) each = text_push (stand_in_of c) (flat_map stand_in_of cs) (character_fits c each.0) (characters_fit cs each.1)

pub text_stays : (text : List ℕ) → IsText text → IsText (stood [] text)
text_stays text is =
    let all : text ≡ concat is.characters ++ [] = is.whole ∙ sym (append-nil (concat is.characters)) in
    subst IsText (sym (ap (λ (bs : List ℕ). stood [] bs) all ∙ text_stood is.characters [] is.each none_begun ∙ append-nil (flat_map stand_in_of is.characters))) (characters_fit is.characters is.each)

pub beginning_stays : (text : List ℕ) → BeginsText text → BeginsText (stood [] text)
beginning_stays text begins = record { more = stood (due_after [] text) begins.more; text = subst IsText (stood-append [] text begins.more) (text_stays (text ++ begins.more) begins.text) }

-- ---- bytes

pub stand_in_bytes : (b : ℕ) → b < 256 → IsBytes (stand_in b)
stand_in_bytes b small = grind (arith, common_steps)

due_at_bytes : (due : List ℕ) (b : ℕ) → IsBytes due → b < 256 → IsBytes (due_at due b)
due_at_bytes [] b all small = stand_in_bytes b small
due_at_bytes (d ∷ due) b all small = all

first_byte_small : (bytes : List ℕ) → IsBytes bytes → slice_index bytes 0 < 256
first_byte_small [] all = omega arith
first_byte_small (b ∷ bytes) all = all.0

rest_bytes : (bytes : List ℕ) → IsBytes bytes → IsBytes (drop 1 bytes)
rest_bytes [] all = tt
rest_bytes (b ∷ bytes) all = all.1

pub stood_bytes : (due text : List ℕ) → IsBytes due → IsBytes text → IsBytes (stood due text)
stood_bytes due [] all bytes = tt
stood_bytes due (b ∷ text) all bytes =
    let next = due_at_bytes due b all bytes.0 in
    (first_byte_small (due_at due b) next, stood_bytes (drop 1 (due_at due b)) text (rest_bytes (due_at due b) next) bytes.1)

pub due_bytes : (due text : List ℕ) → IsBytes due → IsBytes text → IsBytes (due_after due text)
due_bytes due [] all bytes = all
due_bytes due (b ∷ text) all bytes = due_bytes (drop 1 (due_at due b)) text (rest_bytes (due_at due b) (due_at_bytes due b all bytes.0)) bytes.1

pub zeros_bytes : (bytes : List ℕ) → IsBytes (zeros_for bytes)
zeros_bytes [] = tt
zeros_bytes (b ∷ bytes) = (omega arith, zeros_bytes bytes)
