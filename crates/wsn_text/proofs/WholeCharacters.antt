-- Where the last character of bytes that begin text starts, if it is unfinished.
use Rattle.std.proofs.Common.{◌≡◌, ℕ, suc, ◌+◌, ◌-◌, ◌<◌, ◌≤◌, List, [], ◌∷◌, ◌++◌, ◌⊎◌, length, take, drop, get_or, refl, sym, ◌∙◌, subst, ap, append-nil, append_assoc, arith, length-append, length-drop, drop-cons, inl, inr, Bool, true, false, true≢false, IsTrue, ◌↔◌}
use Rattle.std.proofs.Math.Seq.{take-append_seam, drop-append_seam, get_or-append_seam}
use Rattle.std.proofs.Math.ListN.{get_or-append}
use Rattle.std.proofs.lemmas.Bool.{cases_lt}
use Rattle.std.proofs.lemmas.List.{get_or-append-add, take-append-drop, take-append-le, drop-append-le, get_or-take, length-take}
use Rattle.std.proofs.lemmas.Str.{IsUtf8-take, IsUtf8-drop, utf8_valid_len-IsUtf8, utf8_valid_len-IsValidUpTo}
use Rattle.std.specs.List.{AllByRecursion, concat}
use Rattle.std.specs.Str.{IsUtf8}
use Rattle.std.specs.Str.Lossy.{utf8_valid_len}
use Rattle.wsn_text.specs.Utf8.{IsCharacter, IsText, BeginsText}
use Rattle.wsn_text.proofs.Rests.{text-nil, text_push}
use Rattle.wsn_text.proofs.Scalars.{text_is_utf8}

-- The byte begins a character of which n more bytes follow.
pub record Leads (b n : ℕ) : Type 0 where
  pub most : n ≤ 3
  pub one : 0xC0 ≤ b → 1 ≤ n
  pub two : 0xE0 ≤ b → 2 ≤ n
  pub three : 0xF0 ≤ b → 3 ≤ n
  pub from_one : 1 ≤ n → 0xC0 ≤ b
  pub from_two : 2 ≤ n → 0xE0 ≤ b
  pub from_three : 3 ≤ n → 0xF0 ≤ b

leads : (b : ℕ) (rest : List ℕ) → IsCharacter (b ∷ rest) → Leads b (length rest)
leads b [] fits = record { most = grind arith; one = grind arith; two = grind arith; three = grind arith; from_one = grind arith; from_two = grind arith; from_three = grind arith }
leads b (x ∷ []) fits = record { most = grind arith; one = grind arith; two = grind arith; three = grind arith; from_one = grind arith; from_two = grind arith; from_three = grind arith }
leads b (x ∷ y ∷ []) fits = record { most = grind arith; one = grind arith; two = grind arith; three = grind arith; from_one = grind arith; from_two = grind arith; from_three = grind arith }
leads b (x ∷ y ∷ z ∷ []) fits = record { most = grind arith; one = grind arith; two = grind arith; three = grind arith; from_one = grind arith; from_two = grind arith; from_three = grind arith }
leads b (x ∷ y ∷ z ∷ w ∷ rest) fits = absurd (grind arith)

-- Text begins with a character.
first : (characters : List (List ℕ)) → AllByRecursion IsCharacter characters → (b : ℕ) (bytes : List ℕ) → b ∷ bytes ≡ concat characters → (n : ℕ) × (n ≤ length bytes) × Leads b n
first [] each b bytes is = cc
first ([] ∷ characters) each b bytes is = absurd (grind (arith, each.0))
first ((d ∷ rest) ∷ characters) each b bytes is =
    let same : b ≡ d = ap (λ (bs : List ℕ). get_or bs 0 0) is in
    (length rest, omega (arith, ap (λ (bs : List ℕ). length bs) is, length-append rest (concat characters)), subst (λ (x : ℕ). Leads x (length rest)) (sym same) (leads d rest each.0))

-- Bytes that begin a character, which isn't complete; or none.
abbrev IsBegun : List ℕ → Type 0
IsBegun [] = Unit {0}
IsBegun (b ∷ rest) = (n : ℕ) × (length rest < n) × Leads b n

-- Text, and the first bytes of a character that isn't complete.
record Ends (bytes : List ℕ) : Type 0 where
  front : List ℕ
  part : List ℕ
  is : bytes ≡ front ++ part
  text : IsText front
  begun : IsBegun part

inside : (bytes more character following : List ℕ) → IsCharacter character → bytes ++ more ≡ character ++ following → length bytes < length character → IsBegun bytes
inside [] more character following fits is less = tt
inside (b ∷ rest) more [] following fits is less = absurd (omega arith)
inside (b ∷ rest) more (d ∷ others) following fits is less =
    let same : b ≡ d = ap (λ (bs : List ℕ). get_or bs 0 0) is in
    (length others, omega arith, subst (λ (x : ℕ). Leads x (length others)) (sym same) (leads d others fits))

ends : (characters : List (List ℕ)) → AllByRecursion IsCharacter characters → (bytes more : List ℕ) → bytes ++ more ≡ concat characters → Ends bytes
ends [] each [] more is = record { front = []; part = []; is = refl; text = text-nil; begun = tt }
ends [] each (b ∷ bytes) more is = cc
ends (character ∷ characters) each bytes more is =
    elim (cases_lt (length bytes) (length character)) [
      | inl less ↦ record { front = []; part = bytes; is = refl; text = text-nil; begun = inside bytes more character (concat characters) each.0 is less }
      | inr le ↦
          let n = length character in
          let front : take n bytes ≡ character = sym (take-append-le n bytes more le) ∙ ap (λ (bs : List ℕ). take n bs) is ∙ take-append_seam character (concat characters) in
          let following : drop n bytes ++ more ≡ concat characters = sym (drop-append-le n bytes more le) ∙ ap (λ (bs : List ℕ). drop n bs) is ∙ drop-append_seam character (concat characters) in
          let e : Ends (drop n bytes) = ends characters each.1 (drop n bytes) more following in
          record {
            front = character ++ e.front;
            part = e.part;
            is = sym (take-append-drop n bytes) ∙ ap (λ (bs : List ℕ). bs ++ drop n bytes) front ∙ ap (λ (bs : List ℕ). character ++ bs) e.is ∙ sym (append_assoc character e.front e.part);
            text = text_push character e.front each.0 e.text;
            begun = e.begun;
          }
    ]

-- No byte of the last three begins a character of more bytes than are there.
pub record HasNoLead (bytes : List ℕ) : Type 0 where
  pub one : 1 ≤ length bytes → get_or bytes (length bytes - 1) 0 < 0xC0
  pub two : 2 ≤ length bytes → get_or bytes (length bytes - 2) 0 < 0xE0
  pub three : 3 ≤ length bytes → get_or bytes (length bytes - 3) 0 < 0xF0

pub low_before_end : (bytes : List ℕ) (k low : ℕ) (result : Bool) → IsTrue result ↔ (k ≤ length bytes) × (low ≤ get_or bytes (length bytes - k) 0) → result ≡ false → k ≤ length bytes → get_or bytes (length bytes - k) 0 < low
low_before_end bytes k low result test is within =
    elim (cases_lt (get_or bytes (length bytes - k) 0) low) [
      | inl less ↦ less
      | inr high ↦ let passes : result ≡ true = test.1 (within, high) in absurd (true≢false (sym passes ∙ is))
    ]

-- The byte at which the part begins.
lead_at : (front : List ℕ) (b : ℕ) (rest : List ℕ) (k : ℕ) → k ≡ length rest → get_or (front ++ b ∷ rest) (length (front ++ b ∷ rest) - suc k) 0 ≡ b
lead_at front b rest k is =
    ap (λ (i : ℕ). get_or (front ++ b ∷ rest) i 0) (omega (arith, length-append front (b ∷ rest))) ∙ get_or-append_seam front b rest 0

none_begun : (front part : List ℕ) → IsBegun part → HasNoLead (front ++ part) → part ≡ []
none_begun front [] begun low = refl
none_begun front (b ∷ []) begun low =
    let below = low.one (omega (arith, length-append front (b ∷ []))) in
    let is = lead_at front b [] 0 refl in
    let high : 0xC0 ≤ b = begun.2.from_one (omega (arith, begun.1)) in
    absurd (omega (arith, below, is, high))
none_begun front (b ∷ x ∷ []) begun low =
    let below = low.two (omega (arith, length-append front (b ∷ x ∷ []))) in
    let is = lead_at front b (x ∷ []) 1 refl in
    let high : 0xE0 ≤ b = begun.2.from_two (omega (arith, begun.1)) in
    absurd (omega (arith, below, is, high))
none_begun front (b ∷ x ∷ y ∷ []) begun low =
    let below = low.three (omega (arith, length-append front (b ∷ x ∷ y ∷ []))) in
    let is = lead_at front b (x ∷ y ∷ []) 2 refl in
    let high : 0xF0 ≤ b = begun.2.from_three (omega (arith, begun.1)) in
    absurd (omega (arith, below, is, high))
none_begun front (b ∷ x ∷ y ∷ z ∷ rest) begun low = let most = begun.2.most in absurd (omega (arith, most, begun.1))

-- If no character is unfinished, all bytes are text.
pub whole : (bytes : List ℕ) → BeginsText bytes → HasNoLead bytes → utf8_valid_len bytes ≡ length bytes
whole bytes begins low =
    let e : Ends bytes = ends begins.text.characters begins.text.each bytes begins.more begins.text.whole in
    let none : e.part ≡ [] = none_begun e.front e.part e.begun (subst HasNoLead e.is low) in
    let all : bytes ≡ e.front = e.is ∙ ap (λ (bs : List ℕ). e.front ++ bs) none ∙ append-nil e.front in
    utf8_valid_len-IsUtf8 bytes ((text_is_utf8 bytes).0 (subst IsText (sym all) e.text))

-- Otherwise the text ends where it begins.
module _ (bytes : List ℕ) (i k : ℕ) (at : i + k ≡ length bytes) (some : 0 < k) (high : 0xC0 ≤ get_or bytes i 0) (long : (n : ℕ) → Leads (get_or bytes i 0) n → k ≤ n) where
  front_is_text : BeginsText bytes → IsUtf8 (take i bytes)
  front_is_text begins =
      let all = bytes ++ begins.more in
      let size : length (bytes ++ begins.more) ≡ length bytes + length begins.more = length-append bytes begins.more in
      let same : get_or (bytes ++ begins.more) i 0 ≡ get_or bytes i 0 = get_or-append bytes begins.more 0 i (omega arith) in
      let utf8 : IsUtf8 (bytes ++ begins.more) = (text_is_utf8 (bytes ++ begins.more)).0 begins.text in
      subst IsUtf8 (take-append-le i bytes begins.more (omega arith)) (IsUtf8-take (bytes ++ begins.more) i utf8 (omega arith, λ less later. omega (arith, same, high)))

  longer_is_none : (m : ℕ) → i < m → ¬ (IsUtf8 (take m bytes))
  longer_is_none m less utf8 =
      let size = length-take m bytes in
      let same : get_or (take m bytes) i 0 ≡ get_or bytes i 0 = get_or-take m bytes i 0 less in
      let following = IsUtf8-drop (take m bytes) i utf8 (omega (arith, size), λ inner later. omega (arith, same, high)) in
      let begins : drop i (take m bytes) ≡ get_or bytes i 0 ∷ drop (suc i) (take m bytes) = drop-cons (take m bytes) i 0 (omega (arith, size)) ∙ ap (λ (b : ℕ). b ∷ drop (suc i) (take m bytes)) same in
      let text : IsText (get_or bytes i 0 ∷ drop (suc i) (take m bytes)) = (text_is_utf8 (get_or bytes i 0 ∷ drop (suc i) (take m bytes))).1 (subst IsUtf8 begins following) in
      let f = first text.characters text.each (get_or bytes i 0) (drop (suc i) (take m bytes)) text.whole in
      omega (arith, f.1, long f.0 f.2, length-drop (suc i) (take m bytes), size, at)

  pub cut : BeginsText bytes → utf8_valid_len bytes ≡ i
  cut begins = utf8_valid_len-IsValidUpTo bytes i (record { short = omega arith; front = front_is_text begins; longest = longer_is_none })

-- ---- the last three bytes of a text, or all

at_end : (text skipped bytes : List ℕ) (k : ℕ) → text ≡ skipped ++ bytes → k ≤ length bytes → get_or text (length text - k) 0 ≡ get_or bytes (length bytes - k) 0
at_end text skipped bytes k is le =
    let size : length text ≡ length skipped + length bytes = ap (λ (bs : List ℕ). length bs) is ∙ length-append skipped bytes in
    let index : length text - k ≡ length skipped + (length bytes - k) = omega (arith, size, le) in
    ap (λ (bs : List ℕ). get_or bs (length text - k) 0) is ∙ ap (λ (i : ℕ). get_or (skipped ++ bytes) i 0) index ∙ get_or-append-add skipped bytes (length bytes - k) 0

-- The byte k before the end begins a character of more than k bytes.
pub unfinished_at_end : (text skipped bytes : List ℕ) (k low : ℕ) → text ≡ skipped ++ bytes → 0 < k → 0xC0 ≤ low → ((b n : ℕ) → low ≤ b → Leads b n → k ≤ n) → (k ≤ length bytes) × (low ≤ get_or bytes (length bytes - k) 0)
    → BeginsText text → utf8_valid_len text + k ≡ length text
unfinished_at_end text skipped bytes k low is some high long at begins =
    let size : length text ≡ length skipped + length bytes = ap (λ (bs : List ℕ). length bs) is ∙ length-append skipped bytes in
    let same = at_end text skipped bytes k is at.0 in
    let from : low ≤ get_or text (length text - k) 0 = omega (arith, same, at.1) in
    let ends = cut text (length text - k) k (omega (arith, size, at.0)) some (omega (arith, from, high)) (λ n leads. long (get_or text (length text - k) 0) n from leads) begins in
    omega (arith, ends, size, at.0)

-- No byte of the last three does.
pub whole_at_end : (text skipped bytes : List ℕ) → text ≡ skipped ++ bytes → (3 ≤ length bytes) ⊎ (skipped ≡ []) → HasNoLead bytes → BeginsText text → utf8_valid_len text ≡ length text
whole_at_end text skipped bytes is enough low begins =
    whole text begins (record {
      one = λ some. let le = reaches 1 (omega arith) some in let same = at_end text skipped bytes 1 is le in let below = low.one le in omega (arith, same, below);
      two = λ some. let le = reaches 2 (omega arith) some in let same = at_end text skipped bytes 2 is le in let below = low.two le in omega (arith, same, below);
      three = λ some. let le = reaches 3 (omega arith) some in let same = at_end text skipped bytes 3 is le in let below = low.three le in omega (arith, same, below);
    })
  where
    reaches : (k : ℕ) → k ≤ 3 → k ≤ length text → k ≤ length bytes
    reaches k few within =
        elim enough [
          | inl three ↦ omega (arith, few, three)
          | inr none ↦ let all : length text ≡ length bytes = ap (λ (bs : List ℕ). length bs) (is ∙ ap (λ (bs : List ℕ). bs ++ bytes) none) in omega (arith, within, all)
        ]
