-- At which offsets text can be split, and which prefixes of bytes are text.
use Rattle.std.proofs.Common.{◌≡◌, ℕ, ◌+◌, ◌<◌, ◌≤◌, List, [], ◌∷◌, ◌++◌, length, take, drop, sym, ◌∙◌, subst, ap, append_assoc, append-nil, arith}
use Rattle.std.proofs.Math.Seq.{take-append_seam, drop-append_seam, take-add}
use Rattle.std.proofs.lemmas.List.{take-append-drop, take-append-le, take-take, length-append, length-take-le, length-drop}
use Rattle.std.proofs.lemmas.Str.{IsUtf8-drop, IsCharBoundary-from_take}
use Rattle.std.specs.List.{AllByRecursion, concat}
use Rattle.std.specs.Str.{IsUtf8, IsValidUpTo}
use Rattle.wsn_text.specs.Utf8.{IsCharacter, IsText, BeginsText}
use Rattle.wsn_text.proofs.Rests.{text-nil, text_push}
use Rattle.wsn_text.proofs.Scalars.{text_is_utf8, character_length}
use Rattle.wsn_text.proofs.Prefixes.{text-append}

pub text_after : (front back : List ℕ) → IsText front → IsText (front ++ back) → IsText back
text_after front back text joined =
    let utf8 : IsUtf8 (front ++ back) = (text_is_utf8 (front ++ back)).0 joined in
    let front_utf8 : IsUtf8 (take (length front) (front ++ back)) = subst IsUtf8 (sym (take-append_seam front back)) ((text_is_utf8 front).0 text) in
    let le : length front ≤ length (front ++ back) = omega (arith, length-append front back) in
    let following : IsUtf8 (drop (length front) (front ++ back)) = IsUtf8-drop (front ++ back) (length front) utf8 (IsCharBoundary-from_take (front ++ back) (length front) utf8 le front_utf8) in
    (text_is_utf8 back).1 (subst IsUtf8 (drop-append_seam front back) following)

-- A text that isn't empty begins with a character.
record Cut (text : List ℕ) : Type 0 where
  len : ℕ
  some : 0 < len
  few : len ≤ 4
  front : IsText (take len text)

cut_of_characters : (characters : List (List ℕ)) → AllByRecursion IsCharacter characters → 0 < length (concat characters) → Cut (concat characters)
cut_of_characters [] each long = absurd (omega arith)
cut_of_characters (character ∷ characters) each long =
    let bounds = character_length character each.0 in
    let one : IsText character = subst IsText (append-nil character) (text_push character [] each.0 text-nil) in
    record { len = length character; some = bounds.0; few = bounds.1; front = subst IsText (sym (take-append_seam character (concat characters))) one }

cut_of : (text : List ℕ) → IsText text → 0 < length text → Cut text
cut_of text is_text long = subst Cut (sym is_text.whole) (cut_of_characters is_text.characters is_text.each (omega (arith, ap length is_text.whole)))

-- If bytes begin text, and four of them follow a prefix that is text, a longer prefix is text.
pub longer_front : (bytes : List ℕ) (at : ℕ) → IsText (take at bytes) → at + 4 ≤ length bytes → BeginsText bytes → (m : ℕ) × (at < m) × (m ≤ at + 4) × IsText (take m bytes)
longer_front bytes at text le begins =
    let joined : take at bytes ++ (drop at bytes ++ begins.more) ≡ bytes ++ begins.more =
    sym (append_assoc (take at bytes) (drop at bytes) begins.more) ∙ ap (λ (front : List ℕ). front ++ begins.more) (take-append-drop at bytes) in
    let following : IsText (drop at bytes ++ begins.more) = text_after (take at bytes) (drop at bytes ++ begins.more) text (subst IsText (sym joined) begins.text) in
    let cut : Cut (drop at bytes ++ begins.more) = cut_of (drop at bytes ++ begins.more) following (omega (arith, length-append (drop at bytes) begins.more, length-drop at bytes)) in
    let inside : take cut.len (drop at bytes ++ begins.more) ≡ take cut.len (drop at bytes) = take-append-le cut.len (drop at bytes) begins.more (omega (arith, length-drop at bytes, cut.few)) in
    let both : IsText (take at bytes ++ take cut.len (drop at bytes)) = text-append (take at bytes) (take cut.len (drop at bytes)) text (subst IsText inside cut.front) in
    (at + cut.len, omega (arith, cut.some), omega (arith, cut.few), subst IsText (sym (take-add at cut.len bytes)) both)

-- What std's validation says of the first n bytes.

pub text_of_all : (bytes text : List ℕ) (n : ℕ) → n ≤ length bytes → text ≡ take n bytes → IsUtf8 (take n bytes) → (length text ≤ length bytes) × IsText (take (length text) bytes)
text_of_all bytes text n le is utf8 =
    let len : length text ≡ n = ap length is ∙ length-take-le n bytes le in
    (omega arith, subst (λ (m : ℕ). IsText (take m bytes)) (sym len) ((text_is_utf8 (take n bytes)).1 utf8))

pub text_of_valid : (bytes : List ℕ) (n at : ℕ) → n ≤ length bytes → IsValidUpTo (take n bytes) at → (at ≤ length bytes) × IsText (take at bytes)
text_of_valid bytes n at le valid =
    let short : at < length (take n bytes) = valid.short in
    let len : length (take n bytes) ≡ n = length-take-le n bytes le in
    (omega arith, subst IsText (take-take at n bytes (omega arith)) ((text_is_utf8 (take at (take n bytes))).1 valid.front))

pub ends_after_valid : (bytes : List ℕ) (n at : ℕ) → n ≤ length bytes → at + 4 ≤ n → IsValidUpTo (take n bytes) at → ¬ (BeginsText bytes)
ends_after_valid bytes n at le far valid begins =
    let text : IsText (take at bytes) = subst IsText (take-take at n bytes (omega arith)) ((text_is_utf8 (take at (take n bytes))).1 valid.front) in
    let longer = longer_front bytes at text (omega arith) begins in
    valid.longest longer.0 longer.1 ((text_is_utf8 (take longer.0 (take n bytes))).0 (subst IsText (sym (take-take longer.0 n bytes (omega (arith, longer.2)))) longer.3))
