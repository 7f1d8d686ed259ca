-- The pieces of what is shown of a bad character.
use Rattle.std.proofs.Common.{◌≡◌, ◌≢◌, ℕ, Bool, nat_lt, ◌==◌, ◌||◌, if◌then◌else◌, List, [], ◌∷◌, ◌++◌, length, take, codes, decimal, refl, sym, ap, ◌∙◌, append_assoc, arith}
use Rattle.std.specs.Prelude.{flat_map}
use Rattle.std.specs.Str.{chars, IsUtf8}
use Rattle.std.specs.Str.Lossy.{utf8_valid_len}
use Rattle.std.proofs.lemmas.List.{take-append-le, take_all}
use Rattle.hex.specs.Hex.{encode_lower}
use Rattle.wsn_rules.specs.BadCharacter.{BadCharacter}
use Rattle.wsn_print.specs.Json.{field, number_field}
use Rattle.wsn_print.specs.EscapedText.{quoted_character, quoted}
use Rattle.wsn_shown_text.specs.ShownObjects.{hex_field}
use Rattle.wsn_shown_text.specs.CharacterText.{first_characters, from_character, bytes_before, text_before, byte_escape, character_text, character_view, shown_bytes, truncated_text, character_object}
use Rattle.wsn_shown_text.proofs.HeldViews.{not_zero}
use Rattle.wsn_shown_text.proofs.TextFronts.{whole_is_utf8}

-- ---- the text before it

-- The text at the front of bytes that is as long as their whole characters.
pub first_text : (bytes text rest : List ℕ) → bytes ≡ text ++ rest → length text ≡ utf8_valid_len bytes → text ≡ first_characters bytes
first_text bytes text rest is size =
    sym (ap (λ (n : ℕ). take n bytes) (sym size) ∙ ap (take (length text)) is ∙ take-append-le (length text) text rest (omega arith) ∙ take_all (length text) text (omega arith))

pub no_text : (bytes : List ℕ) → length bytes ≡ 0 → [] ≡ first_characters bytes
unfolding utf8_valid_len
no_text [] none = refl
no_text (b ∷ bytes) none = absurd (omega (arith, none))

pub before_is_utf8 : (n : ℕ) (all shown : List ℕ) (character : BadCharacter) → shown ≡ text_before n all character → IsUtf8 shown
before_is_utf8 n all shown character is =
    rw is (whole_is_utf8 (from_character (bytes_before n all character)))

-- ---- its line

text_whole : (dots quote before bytes end : List ℕ) → dots ++ (quote ++ (before ++ (bytes ++ end))) ≡ dots ++ (quote ++ before ++ bytes ++ end)
text_whole dots quote before bytes end = simp append_assoc

pub text_is : (n : ℕ) (all before : List ℕ) (character : BadCharacter) → before ≡ text_before n all character
    → (if nat_lt (length before) character.in_payload then codes ".." else [])
    ++ (codes "\"" ++ (flat_map quoted_character (chars before) ++ (flat_map byte_escape character.bytes ++ codes "\""))) ≡ character_text n all character
text_is n all before character is =
    let escapes : List ℕ = flat_map byte_escape character.bytes ++ codes "\"" in
    let text : List ℕ = text_before n all character in
    ap (λ (b : List ℕ). (if nat_lt (length b) character.in_payload then codes ".." else []) ++ (codes "\"" ++ (flat_map quoted_character (chars b) ++ escapes))) is
    ∙ text_whole (if nat_lt (length text) character.in_payload then codes ".." else []) (codes "\"") (flat_map quoted_character (chars text)) (flat_map byte_escape character.bytes) (codes "\"")

pub view_is : (n : ℕ) (all : List ℕ) (character : BadCharacter) → n ≢ 0
    → encode_lower character.bytes ++ (codes " " ++ character_text n all character) ≡ character_view n all character
view_is n all character some =
    sym (append_assoc (encode_lower character.bytes) (codes " ") (character_text n all character))
    ∙ sym (ap (λ (none : Bool). if none then codes "- -" else encode_lower character.bytes ++ codes " " ++ character_text n all character) (not_zero n some))

pub view_unseen : (n : ℕ) (all : List ℕ) (character : BadCharacter) → n ≡ 0 → codes "- -" ≡ character_view n all character
view_unseen n all character none = ap (λ (k : ℕ). character_view k all character) (sym none)

pub line_is : (side space offset word place gap view end : List ℕ)
    → side ++ ((space ++ offset ++ word ++ place ++ gap) ++ (view ++ end)) ≡ side ++ (space ++ offset) ++ word ++ place ++ gap ++ view ++ end
line_is side space offset word place gap view end = simp append_assoc

-- ---- its object

object_whole : (offset place hex before truncated end : List ℕ) → (offset ++ place) ++ (hex ++ ((before ++ truncated) ++ end)) ≡ offset ++ place ++ hex ++ before ++ truncated ++ end
object_whole offset place hex before truncated end = simp append_assoc

pub object_is : (n : ℕ) (all : List ℕ) (character : BadCharacter)
    → (codes ",\"character\":{\"offset\":" ++ decimal character.offset ++ number_field (codes "in_payload") character.in_payload)
    ++ (hex_field (shown_bytes n character) ++ ((field (codes "before") (quoted (text_before n all character)) ++ truncated_text n all character) ++ codes "}"))
    ≡ field (codes "character") (character_object n all character)
object_is n all character =
    ap (λ (bytes : List ℕ). codes ",\"character\":{\"offset\":" ++ bytes)
    (object_whole (decimal character.offset) (number_field (codes "in_payload") character.in_payload) (hex_field (shown_bytes n character)) (field (codes "before") (quoted (text_before n all character))) (truncated_text n all character) (codes "}"))

pub before_is : (n : ℕ) (all shown before : List ℕ) (character : BadCharacter) → shown ≡ text_before n all character → before ≡ text_before n all character
    → codes ",\"before\":" ++ (quoted shown ++ (if n == 0 || nat_lt (length before) character.in_payload then codes ",\"truncated\":true" else []))
    ≡ field (codes "before") (quoted (text_before n all character)) ++ truncated_text n all character
before_is n all shown before character is_shown is =
    let text : List ℕ = text_before n all character in
    ap (λ (b : List ℕ). field (codes "before") (quoted b) ++ (if n == 0 || nat_lt (length before) character.in_payload then codes ",\"truncated\":true" else [])) is_shown
    ∙ ap (λ (b : List ℕ). field (codes "before") (quoted text) ++ (if n == 0 || nat_lt (length b) character.in_payload then codes ",\"truncated\":true" else [])) is
