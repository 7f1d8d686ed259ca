-- Bytes that begin a text, and the characters of them that are shown.
use Rattle.std.proofs.Common.{◌≡◌, ℕ, ◌+◌, ◌*◌, ◌≤◌, ◌==◌, Bool, true, false, if◌then◌else◌, List, [], ◌∷◌, length, take, drop, sym, ◌∙◌, subst, arith}
use Rattle.std.proofs.lemmas.Bool.{and_parts}
use Rattle.std.proofs.lemmas.Bool.Decides.{nat_tests}
use Rattle.std.proofs.lemmas.List.{length-take, take-take}
use Rattle.std.proofs.lemmas.Str.{IsUtf8-from_ascii, utf8_valid_len_le}
use Rattle.std.proofs.lemmas.Str.Ascii.{IsAscii-nil, IsAscii-cons}
use Rattle.std.specs.Str.{IsUtf8, IsAscii}
use Rattle.std.specs.Str.Lossy.{utf8_valid_len}
use Rattle.wsn_text.specs.Utf8.{BeginsText}
use Rattle.wsn_text.proofs.Prefixes.{begins_take, text_begins}
use Rattle.wsn_text.proofs.Scalars.{text_is_utf8}
use Rattle.wsn_print.specs.EscapedText.{is_from}
use Rattle.wsn_shown_text.specs.Views.{is_printable, IsReadable, view_of_text, view_of_bytes, view_of_close, view_of_event, view_of_unfinished, view_of_part}
use Rattle.wsn_print.specs.ShownParts.{text_part, HoldsFirst, HasText, HasTextReason}
use Rattle.wsn_rules.specs.Meaning.{MeantEvent, Message, Control}
use Rattle.wsn_wire.specs.declared.opcode.Kind.TheVariants as kinds
use Rattle.wsn_wire.specs.declared.opcode.Op.TheVariants as ops
use Rattle.wsn_shown_text.specs.Views.Shown.{Code, NoCode}
use Rattle.wsn_shown_text.specs.CharacterText.{first_characters}
use Rattle.wsn_shown_text.proofs.HeldViews.{take_held, as_view}
use Rattle.wsn_shown_text.proofs.VisibleTexts.{front_is_utf8}

utf8_begins : (bytes : List ℕ) → IsUtf8 bytes → BeginsText bytes
utf8_begins bytes utf8 = text_begins bytes ((text_is_utf8 bytes).1 utf8)

printable_ascii : (bytes : List ℕ) → is_printable bytes ≡ true → IsAscii bytes
printable_ascii [] printable = IsAscii-nil
printable_ascii (b ∷ bytes) printable =
    let parts = and_parts (is_from 0x20 0x7e b) (is_printable bytes) printable in
    IsAscii-cons b bytes (grind (arith, nat_tests, parts.0)) (printable_ascii bytes parts.1)

pub printable_begins : (bytes : List ℕ) → is_printable bytes ≡ true → BeginsText bytes
printable_begins bytes printable = utf8_begins bytes (IsUtf8-from_ascii bytes (printable_ascii bytes printable))

-- The first bytes of those that are held.
pub front_is_begun : (n : ℕ) (all held front : List ℕ) → front ≡ take n held → HoldsFirst n all held → BeginsText all → BeginsText front
front_is_begun n all held front is holds begins = subst BeginsText (sym (is ∙ take_held n all held holds)) (begins_take n all begins)

pub part_is_utf8 : (n : ℕ) (text : List ℕ) → IsUtf8 (take (text_part n text) text)
unfolding utf8_valid_len
part_is_utf8 n text =
    let few : utf8_valid_len (take n text) ≤ n = omega (arith, utf8_valid_len_le (take n text), length-take n text) in
    subst IsUtf8 (take-take (utf8_valid_len (take n text)) n text few) (front_is_utf8 (take n text) (length (take n text)))

pub shown_is_utf8 : (n : ℕ) (all shown : List ℕ) → shown ≡ take (text_part n all) all → IsUtf8 shown
shown_is_utf8 n all shown is = subst IsUtf8 (sym is) (part_is_utf8 n all)

pub whole_is_utf8 : (bytes : List ℕ) → IsUtf8 (first_characters bytes)
unfolding utf8_valid_len
whole_is_utf8 bytes = front_is_utf8 bytes (length bytes)

-- ---- what is quoted of a view is UTF-8

body_by : (n : ℕ) (t : Bool) (body : List ℕ) → IsReadable (if t then view_of_text n body else view_of_bytes n body).shown
body_by n true body = part_is_utf8 n body
body_by n false body = tt

close_by : (code : ℕ) (reason : List ℕ) (t : Bool) → IsUtf8 reason → IsReadable (if t then as_view NoCode true else as_view (Code code reason) false).shown
close_by code reason true utf8 = tt
close_by code reason false utf8 = utf8

close_readable : (n : ℕ) (body : List ℕ) → IsUtf8 (drop 2 body) → IsReadable (view_of_close n body).shown
close_readable n [] utf8 = tt
close_readable n (high ∷ []) utf8 = tt
close_readable n (high ∷ low ∷ reason) utf8 = close_by (high * 256 + low) reason (n == 0) utf8

pub event_readable : (n : ℕ) (event : MeantEvent) → HasTextReason event → IsReadable (view_of_event n event).shown
event_readable n (Message kinds.Text payload) reason = part_is_utf8 n payload
event_readable n (Message kinds.Binary payload) reason = tt
event_readable n (Control ops.Close body) reason = close_readable n body reason
event_readable n (Control ops.Continue body) reason = body_by n (is_printable body) body
event_readable n (Control ops.Text body) reason = body_by n (is_printable body) body
event_readable n (Control ops.Binary body) reason = body_by n (is_printable body) body
event_readable n (Control ops.Ping body) reason = body_by n (is_printable body) body
event_readable n (Control ops.Pong body) reason = body_by n (is_printable body) body

pub has_reason : (event : MeantEvent) → HasText event → HasTextReason event
has_reason (Message kind payload) text = tt
has_reason (Control op body) text = text

pub unfinished_readable : (n : ℕ) (event : MeantEvent) → IsReadable (view_of_unfinished n event).shown
unfinished_readable n (Message kinds.Text payload) = part_is_utf8 n payload
unfinished_readable n (Message kinds.Binary payload) = tt
unfinished_readable n (Control op body) = tt

pub part_readable : (n place : ℕ) (event : MeantEvent) → IsReadable (view_of_part n place event).shown
part_readable n place (Message kinds.Text payload) = tt
part_readable n place (Message kinds.Binary payload) = tt
part_readable n place (Control op body) = tt
