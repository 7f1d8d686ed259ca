-- What is written in place of a text is its redaction, and nothing else is.
use Rattle.std.proofs.Common.{◌≡◌, ℕ, suc, ◌+◌, ◌<◌, ◌≤◌, List, [], ◌∷◌, ◌++◌, length, take, drop, inl, inr, refl, sym, ap, ◌∙◌, subst, append-nil, append_assoc, length-append, arith, get_or, slice_set}
use Rattle.std.proofs.lemmas.Bool.{cases_lt}
use Rattle.std.proofs.lemmas.Grind.{common_steps}
use Rattle.std.proofs.lemmas.List.{take_all, drop_all, take_at, take-append-le, take-append-drop, length-take-le, drop_more, get_or_at, set_at}
use Rattle.std.proofs.Math.Seq.{take-add}
use Rattle.std.specs.List.{AllByRecursion, concat, flat_map, slice_index}
use Rattle.wsn_text.specs.Utf8.{Range, ◌–◌, FitsRow, IsCharacter, IsText, BeginsText}
use Rattle.wsn_text.proofs.Rests.{any}
use Rattle.wsn_text.proofs.Prefixes.{begins-append}
use Rattle.wsn_rules.proofs.Prefixes.{append_cancel}
use Rattle.wsn_redact.specs.StandIns.{single_stand_in, stand_in, stand_in_of, BeginsCharacter, IsRedactedText, IsRedacted, due_at, stood, due_after}

-- ---- in parts

pub stood-append : (due front back : List ℕ) → stood due (front ++ back) ≡ stood due front ++ stood (due_after due front) back
stood-append due [] back = refl
stood-append due (b ∷ front) back = ap (λ (bs : List ℕ). slice_index (due_at due b) 0 ∷ bs) (stood-append (drop 1 (due_at due b)) front back)

pub due_after-append : (due front back : List ℕ) → due_after due (front ++ back) ≡ due_after (due_after due front) back
due_after-append due [] back = refl
due_after-append due (b ∷ front) back = due_after-append (drop 1 (due_at due b)) front back

pub length-stood : (due text : List ℕ) → length (stood due text) ≡ length text
length-stood due [] = refl
length-stood due (b ∷ text) = ap suc (length-stood (drop 1 (due_at due b)) text)

-- ---- one character

-- A stand-in has bytes.
pub stand_in_some : (b : ℕ) → 0 < length (stand_in b)
stand_in_some b = grind (arith, common_steps)

due_at_some : (due : List ℕ) (b : ℕ) → 0 < length due → due_at due b ≡ due
due_at_some [] b some = absurd (omega (arith, some))
due_at_some (d ∷ due) b some = refl

-- A stand-in that begins is due.
first_due : (b : ℕ) (text : List ℕ) → stood [] (b ∷ text) ≡ stood (stand_in b) (b ∷ text)
first_due b text =
    let same : due_at (stand_in b) b ≡ due_at [] b = due_at_some (stand_in b) b (stand_in_some b) in
    ap (λ (due : List ℕ). slice_index due 0 ∷ stood (drop 1 due) text) (sym same)

-- The first bytes are those that are due.
due_first : (due bytes rest : List ℕ) → length bytes ≤ length due → stood due (bytes ++ rest) ≡ take (length bytes) due ++ stood (drop (length bytes) due) rest
due_first due [] rest few = refl
due_first [] (b ∷ bytes) rest few = absurd (omega (arith, few))
due_first (d ∷ due) (b ∷ bytes) rest few = ap (λ (bs : List ℕ). d ∷ bs) (due_first due bytes rest (omega (arith, few)))

pub count_row : (row : List Range) (bytes : List ℕ) → FitsRow row bytes → length bytes ≡ length row
count_row [] [] fits = refl
count_row (r ∷ row) (b ∷ bytes) fits = ap suc (count_row row bytes fits.2)
count_row _ _ fits = absurd fits

one_byte : (b : ℕ) → b ≤ 0x7F → length (stand_in b) ≡ 1
one_byte b to = grind (arith, common_steps)

two_bytes : (b : ℕ) → 0xC2 ≤ b → b ≤ 0xDF → length (stand_in b) ≡ 2
two_bytes b from to = grind (arith, common_steps)

three_bytes : (b : ℕ) → 0xE0 ≤ b → b ≤ 0xEF → length (stand_in b) ≡ 3
three_bytes b from to = grind (arith, common_steps)

four_bytes : (b : ℕ) → 0xF0 ≤ b → b ≤ 0xF4 → length (stand_in b) ≡ 4
four_bytes b from to = grind (arith, common_steps)

-- The stand-in of a character is as long as it.
by_row : (b : ℕ) (rest : List ℕ) → IsCharacter (b ∷ rest) → length (stand_in b) ≡ suc (length rest)
by_row b rest (inl fits) = one_byte b fits.1 ∙ ap suc (sym (count_row [] rest fits.2))
by_row b rest (inr (inl fits)) = two_bytes b fits.0 fits.1 ∙ ap suc (sym (count_row (any ∷ []) rest fits.2))
by_row b rest (inr (inr (inl fits))) = let from = fits.0 in let to = fits.1 in three_bytes b (omega (arith, from)) (omega (arith, to)) ∙ ap suc (sym (count_row ((0xA0 – 0xBF) ∷ any ∷ []) rest fits.2))
by_row b rest (inr (inr (inr (inl fits)))) = let from = fits.0 in let to = fits.1 in three_bytes b (omega (arith, from)) (omega (arith, to)) ∙ ap suc (sym (count_row (any ∷ any ∷ []) rest fits.2))
by_row b rest (inr (inr (inr (inr (inl fits))))) = let from = fits.0 in let to = fits.1 in three_bytes b (omega (arith, from)) (omega (arith, to)) ∙ ap suc (sym (count_row ((0x80 – 0x9F) ∷ any ∷ []) rest fits.2))
by_row b rest (inr (inr (inr (inr (inr (inl fits)))))) = let from = fits.0 in let to = fits.1 in three_bytes b (omega (arith, from)) (omega (arith, to)) ∙ ap suc (sym (count_row (any ∷ any ∷ []) rest fits.2))
by_row b rest (inr (inr (inr (inr (inr (inr (inl fits))))))) = let from = fits.0 in let to = fits.1 in four_bytes b (omega (arith, from)) (omega (arith, to)) ∙ ap suc (sym (count_row ((0x90 – 0xBF) ∷ any ∷ any ∷ []) rest fits.2))
by_row b rest (inr (inr (inr (inr (inr (inr (inr (inl fits)))))))) = let from = fits.0 in let to = fits.1 in four_bytes b (omega (arith, from)) (omega (arith, to)) ∙ ap suc (sym (count_row (any ∷ any ∷ any ∷ []) rest fits.2))
by_row b rest (inr (inr (inr (inr (inr (inr (inr (inr (inl fits))))))))) = let from = fits.0 in let to = fits.1 in four_bytes b (omega (arith, from)) (omega (arith, to)) ∙ ap suc (sym (count_row ((0x80 – 0x8F) ∷ any ∷ any ∷ []) rest fits.2))
by_row b rest (inr (inr (inr (inr (inr (inr (inr (inr (inr none))))))))) = absurd none

pub stand_in_length : (character : List ℕ) → IsCharacter character → length (stand_in_of character) ≡ length character
stand_in_length [] fits = refl
stand_in_length (b ∷ rest) fits = by_row b rest fits

-- ---- characters

-- As much of a character as there is.
begun_stood : (begun : List ℕ) → BeginsCharacter begun → stood [] begun ≡ take (length begun) (stand_in_of begun)
begun_stood [] begins = refl
begun_stood (b ∷ bytes) begins =
    let begun : List ℕ = b ∷ bytes in
    let size : length (stand_in b) ≡ length (begun ++ begins.0) = stand_in_length (begun ++ begins.0) begins.1 in
    let few : length begun ≤ length (stand_in b) = omega (arith, size, length-append begun begins.0) in
    let none : begun ++ [] ≡ begun = append-nil begun in
    first_due b bytes ∙ ap (λ (bs : List ℕ). stood (stand_in b) bs) (sym none) ∙ due_first (stand_in b) begun [] few ∙ append-nil (take (length begun) (stand_in b))

pub character_stood : (character rest : List ℕ) → IsCharacter character → stood [] (character ++ rest) ≡ stand_in_of character ++ stood [] rest
character_stood [] rest fits = refl
character_stood (b ∷ bytes) rest fits =
    let character : List ℕ = b ∷ bytes in
    let size : length (stand_in b) ≡ length character = stand_in_length character fits in
    let all : take (length character) (stand_in b) ≡ stand_in b = take_all (length character) (stand_in b) (omega (arith, size)) in
    let none : drop (length character) (stand_in b) ≡ [] = drop_all (length character) (stand_in b) (omega (arith, size)) in
    first_due b (bytes ++ rest) ∙ due_first (stand_in b) character rest (omega (arith, size)) ∙ (λ i. all i ++ stood (none i) rest)

pub text_stood : (characters : List (List ℕ)) (begun : List ℕ) → AllByRecursion IsCharacter characters → BeginsCharacter begun
    → stood [] (concat characters ++ begun) ≡ flat_map stand_in_of characters ++ take (length begun) (stand_in_of begun)
text_stood [] begun each begins = begun_stood begun begins
text_stood (character ∷ characters) begun each begins =
    ap (λ (bs : List ℕ). stood [] bs) (append_assoc character (concat characters) begun)
    ∙ character_stood character (concat characters ++ begun) each.0
    ∙ ap (λ (bs : List ℕ). stand_in_of character ++ bs) (text_stood characters begun each.1 begins)
    ∙ sym (append_assoc (stand_in_of character) (flat_map stand_in_of characters) (take (length begun) (stand_in_of begun)))

-- The redaction is what is written.
pub is_stood : (text redacted : List ℕ) → IsRedactedText text redacted → redacted ≡ stood [] text
is_stood text redacted is = is.redacted_is ∙ sym (ap (λ (bs : List ℕ). stood [] bs) is.text_is ∙ text_stood is.characters is.begun is.each is.begins)

-- What is redacted begins text.
pub redacted_begins : (text redacted : List ℕ) → IsRedactedText text redacted → BeginsText text
redacted_begins text redacted is =
    let whole : IsText (concat is.characters) = record { characters = is.characters; each = is.each; whole = refl } in
    let character = is.begun ++ is.begins.0 in
    let begun : BeginsText is.begun = record { more = is.begins.0; text = record { characters = character ∷ []; each = (is.begins.1, tt); whole = sym (append-nil character) } } in
    subst BeginsText (sym is.text_is) (begins-append (concat is.characters) is.begun whole begun)

-- ---- what begins text is characters, and then the first bytes of one

record IsSplit (text : List ℕ) : Type 0 where
  characters : List (List ℕ)
  begun : List ℕ
  each : AllByRecursion IsCharacter characters
  begins : BeginsCharacter begun
  text_is : text ≡ concat characters ++ begun

pub none_begun : BeginsCharacter []
none_begun = (0 ∷ [], inl (omega arith, omega arith, tt))

split_of : (characters : List (List ℕ)) (text more : List ℕ) → AllByRecursion IsCharacter characters → text ++ more ≡ concat characters → IsSplit text
split_of [] [] more each is = record { characters = []; begun = []; each = tt; begins = none_begun; text_is = refl }
split_of [] (b ∷ text) more each is = let none : b ∷ (text ++ more) ≡ [] = is in absurd cc
split_of (character ∷ characters) text more each is =
    elim (cases_lt (length text) (length character)) [
      | inl short ↦ within (omega (arith, short))
      | inr whole ↦ after whole (λ rest following. split_of characters rest more each.1 following)
    ]
  where
    all : text ++ more ≡ character ++ concat characters
    all = is

    within : length text ≤ length character → IsSplit text
    within few =
        let front : text ≡ take (length text) character =
        sym (take_at text more (length text) refl) ∙ ap (λ (bs : List ℕ). take (length text) bs) all ∙ take-append-le (length text) character (concat characters) few in
        let joined : text ++ drop (length text) character ≡ character = ap (λ (bs : List ℕ). bs ++ drop (length text) character) front ∙ take-append-drop (length text) character in
        record { characters = []; begun = text; each = tt; begins = (drop (length text) character, subst IsCharacter (sym joined) each.0); text_is = refl }

    after : length character ≤ length text → ((rest : List ℕ) → rest ++ more ≡ concat characters → IsSplit rest) → IsSplit text
    after few split_rest =
        let n = length character in
        let rest = drop n text in
        let front : take n text ≡ character = sym (take-append-le n text more few) ∙ ap (λ (bs : List ℕ). take n bs) all ∙ take_at character (concat characters) n refl in
        let joined : text ≡ character ++ rest = sym (take-append-drop n text) ∙ ap (λ (bs : List ℕ). bs ++ rest) front in
        let following : rest ++ more ≡ concat characters =
        append_cancel character (rest ++ more) (concat characters) (sym (append_assoc character rest more) ∙ ap (λ (bs : List ℕ). bs ++ more) (sym joined) ∙ all) in
        let s = split_rest rest following in
        record {
          characters = character ∷ s.characters;
          begun = s.begun;
          each = (each.0, s.each);
          begins = s.begins;
          text_is = joined ∙ ap (λ (bs : List ℕ). character ++ bs) s.text_is ∙ sym (append_assoc character (concat s.characters) s.begun);
        }

-- What is written in place of what begins text is its redaction.
pub stood_is : (text : List ℕ) → BeginsText text → IsRedactedText text (stood [] text)
stood_is text begins =
    let s = split_of begins.text.characters text begins.more begins.text.each begins.text.whole in
    record {
      characters = s.characters;
      begun = s.begun;
      each = s.each;
      begins = s.begins;
      text_is = s.text_is;
      redacted_is = ap (λ (bs : List ℕ). stood [] bs) s.text_is ∙ text_stood s.characters s.begun s.each s.begins;
    }

-- ---- one redaction

pub one_end : (xs ys : List ℕ) (x y : ℕ) → xs ++ x ∷ [] ≡ ys ++ y ∷ [] → (xs ≡ ys) × (x ≡ y)
one_end [] [] x y is = (refl, cc)
one_end [] (b ∷ ys) x y is = let size = ap (λ (bs : List ℕ). length bs) is in absurd (omega (arith, size, length-append ys (y ∷ [])))
one_end (a ∷ xs) [] x y is = let size = ap (λ (bs : List ℕ). length bs) is in absurd (omega (arith, size, length-append xs (x ∷ [])))
one_end (a ∷ xs) (b ∷ ys) x y is =
    let first : a ≡ b = cc in
    let rest = one_end xs ys x y cc in
    ((λ i. first i ∷ rest.0 i), rest.1)

-- A text has one redaction.
pub one_redacted : (text redacted other : List ℕ) → IsRedacted text redacted → IsRedacted text other → redacted ≡ other
one_redacted text redacted other (inl is) (inl also) = is_stood text redacted is ∙ sym (is_stood text other also)
one_redacted text redacted other (inl is) (inr also) = absurd (also.goes_wrong (redacted_begins text redacted is))
one_redacted text redacted other (inr is) (inl also) = absurd (is.goes_wrong (redacted_begins text other also))
one_redacted text redacted other (inr is) (inr also) =
    let same = one_end is.front also.front is.bad also.bad (sym is.text_is ∙ also.text_is) in
    let front : is.front_redacted ≡ also.front_redacted = is_stood is.front is.front_redacted is.is_front ∙ ap (λ (bs : List ℕ). stood [] bs) same.0 ∙ sym (is_stood also.front also.front_redacted also.is_front) in
    is.redacted_is ∙ (λ i. front i ++ single_stand_in (same.1 i) ∷ []) ∙ sym also.redacted_is

-- It is as long as the text.
pub redacted_length : (text redacted : List ℕ) → IsRedacted text redacted → length redacted ≡ length text
redacted_length text redacted (inl is) = ap (λ (bs : List ℕ). length bs) (is_stood text redacted is) ∙ length-stood [] text
redacted_length text redacted (inr is) =
    let front : length is.front_redacted ≡ length is.front = ap (λ (bs : List ℕ). length bs) (is_stood is.front is.front_redacted is.is_front) ∙ length-stood [] is.front in
    let all = ap (λ (bs : List ℕ). length bs) is.redacted_is in
    let text_all = ap (λ (bs : List ℕ). length bs) is.text_is in
    omega (arith, front, all, text_all, length-append is.front_redacted (single_stand_in is.bad ∷ []), length-append is.front (is.bad ∷ []))

-- ---- in place: a prefix is replaced, the other bytes are unchanged

abbrev pub stood_front : List ℕ → List ℕ → ℕ → List ℕ
stood_front due bytes i = stood due (take i bytes) ++ drop i bytes

one_more : (bytes : List ℕ) (i : ℕ) → i < length bytes → take (i + 1) bytes ≡ take i bytes ++ get_or bytes i 0 ∷ []
one_more bytes i within = take-add i 1 bytes ∙ ap (λ (bs : List ℕ). take i bytes ++ take 1 bs) (drop_more bytes i 0 within)

-- The byte at `i` hasn't been replaced.
pub stood_front-at : (due bytes : List ℕ) (i : ℕ) → i < length bytes → get_or (stood_front due bytes i) i 0 ≡ get_or bytes i 0
stood_front-at due bytes i within =
    let front = stood due (take i bytes) in
    let size : length front ≡ i = length-stood due (take i bytes) ∙ length-take-le i bytes (omega (arith, within)) in
    ap (λ (bs : List ℕ). get_or (front ++ bs) i 0) (drop_more bytes i 0 within) ∙ get_or_at front (get_or bytes i 0) (drop (i + 1) bytes) 0 i size

-- A prefix longer by one byte.
pub stood_front-set : (due bytes : List ℕ) (i : ℕ) → i < length bytes →
    slice_set (stood_front due bytes i) i (slice_index (due_at (due_after due (take i bytes)) (get_or (stood_front due bytes i) i 0)) 0) ≡ stood_front due bytes (i + 1)
stood_front-set due bytes i within =
    let front = stood due (take i bytes) in
    let size : length front ≡ i = length-stood due (take i bytes) ∙ length-take-le i bytes (omega (arith, within)) in
    let read = stood_front-at due bytes i within in
    let now = due_after due (take i bytes) in
    let byte = slice_index (due_at now (get_or bytes i 0)) 0 in
    let whole : stood_front due bytes i ≡ front ++ get_or bytes i 0 ∷ drop (i + 1) bytes = ap (λ (bs : List ℕ). front ++ bs) (drop_more bytes i 0 within) in
    let longer : stood due (take (i + 1) bytes) ≡ front ++ byte ∷ [] =
    ap (λ (bs : List ℕ). stood due bs) (one_more bytes i within) ∙ stood-append due (take i bytes) (get_or bytes i 0 ∷ []) in
    ap (λ (b : ℕ). slice_set (stood_front due bytes i) i (slice_index (due_at now b) 0)) read
    ∙ ap (λ (bs : List ℕ). slice_set bs i byte) whole ∙ set_at front (get_or bytes i 0) (drop (i + 1) bytes) byte i size
    ∙ sym (ap (λ (bs : List ℕ). bs ++ drop (i + 1) bytes) longer ∙ append_assoc front (byte ∷ []) (drop (i + 1) bytes))

pub due_front : (due bytes : List ℕ) (i : ℕ) → i < length bytes → drop 1 (due_at (due_after due (take i bytes)) (get_or (stood_front due bytes i) i 0)) ≡ due_after due (take (i + 1) bytes)
due_front due bytes i within =
    ap (λ (b : ℕ). drop 1 (due_at (due_after due (take i bytes)) b)) (stood_front-at due bytes i within)
    ∙ sym (ap (λ (bs : List ℕ). due_after due bs) (one_more bytes i within) ∙ due_after-append due (take i bytes) (get_or bytes i 0 ∷ []))
