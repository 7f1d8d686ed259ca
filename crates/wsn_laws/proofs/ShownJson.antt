-- The value of a shown item's object.
use Rattle.std.proofs.Common.{◌≡◌, ◌≢◌, ℕ, zero, suc, ◌+◌, ◌*◌, ◌-◌, ◌/◌, ◌<◌, ◌≤◌, ◌==◌, ◌||◌, inl, inr, Bool, true, false, if◌then◌else◌, Option, None, Some, List, [], ◌∷◌, ◌++◌, length, take, drop, codes, refl, sym, ap, ◌∙◌, subst, arith, append_assoc, append-nil}
use Rattle.std.specs.Prelude.{nat_lt, decimal, flat_map, IfSome, ⊤}
use Rattle.std.specs.List.{AllByRecursion}
use Rattle.std.specs.Str.{chars, IsUtf8}
use Rattle.std.proofs.lemmas.Bool.{cases_lt}
use Rattle.hex.specs.Hex.{encode_lower}
use Rattle.wsn_wire.specs.declared.endpoint.Role.{Role}
use Rattle.wsn_wire.specs.declared.endpoint.Role.TheVariants.{Client, Server}
use Rattle.wsn_wire.specs.declared.opcode.Kind.TheVariants as kinds
use Rattle.wsn_wire.specs.declared.opcode.Op.TheVariants as ops
use Rattle.wsn_wire.specs.Frame.{IsBytes}
use Rattle.wsn_wire.specs.Refusal.{word_of, code_of}
use Rattle.wsn_rules.specs.BadCharacter.{BadCharacter}
use Rattle.wsn_rules.specs.Meaning.{MeantEvent, Message, Control, payload_in}
use Rattle.wsn_rules.specs.ShownCapture.{IsSeconds}
use Rattle.wsn_rules.specs.declared.head_info.HeadInfo.{HeadInfo}
use Rattle.wsn_rules.specs.declared.verdict.Refusal.{Refusal}
use Rattle.wsn_rules.specs.ShownStream.{Item}
use Rattle.wsn_rules.specs.ShownStream.Item.{Event, Head, Unfinished, UnfinishedHead, RefusedFrame, Unread, Tail}
use Rattle.wsn_rules.specs.ShownOffsets.{offset_of}
use Rattle.wsn_print.specs.HeadText.{op_word}
use Rattle.wsn_print.specs.Json.{number_or_null, boolean, field, string_field, number_field, number_or_null_field}
use Rattle.wsn_print.specs.Objects.{key_value, form_word, head_members, refusal_fields}
use Rattle.wsn_print.specs.ShownParts.{HasTextReason, EntryPosition}
use Rattle.wsn_shown_text.specs.QuotedTexts.{ShowsTextReason}
use Rattle.wsn_shown_text.specs.CharacterText.{from_character, bytes_before, text_before, leaves_out, shown_bytes, truncated_text, character_object, character_fields}
use Rattle.wsn_print.specs.EscapedText.{quoted}
use Rattle.wsn_shown_text.specs.Views.{Shown, PayloadView, EndView, is_printable, view_of_text, view_of_bytes, view_of_close, view_of_event, view_of_unfinished}
use Rattle.wsn_shown_text.specs.Views.Shown.{Text, Ascii, Hex, Code, NoCode}
use Rattle.wsn_shown_text.specs.Members.{Member as Part, event_word, event_size, item_type, members}
use Rattle.wsn_shown_text.specs.Members.Member.{Mark, Word, Number as Numbered, Lacks, Frame, Refused, Seen, Ending, Bad}
use Rattle.wsn_shown_text.specs.ShownObjects.{truncated_field, reason_field, shown_fields, view_fields, end_fields, line_field, side_word, time_key, time_value, member_field, item_object}
use Rattle.wsn_print.specs.ShownParts.EntryPosition.{InLine, AtEnd, InStream}
use Rattle.wsn_shown_text.proofs.HeldViews.{as_view}
use Rattle.wsn_shown_text.proofs.TextFronts.{part_is_utf8, whole_is_utf8}
use Rattle.wsn_laws.specs.JsonText.{IsNumber, IsInteger, Value, Null, True, Number, String, Object, Members, End, Member, IsJsonLine}
use Rattle.wsn_laws.specs.Answers.{IsInU64, IsHeadInRange}
use Rattle.wsn_laws.specs.ShownItems.{IsPositionInRange, IsCharacterInRange, IsItemInRange}
use Rattle.wsn_laws.proofs.Strings.{are_unescaped}
use Rattle.wsn_laws.proofs.Words.{plain_reason}
use Rattle.wsn_laws.proofs.Fields.{number, optional_number, optional_written, plain_optional}
use Rattle.wsn_laws.proofs.Members.{boolean_json, boolean_is}
use Rattle.wsn_laws.proofs.Verdicts.{code_fits}
use Rattle.wsn_laws.proofs.Keys.{key_json, key_is, key_plain, plain_digits}
use Rattle.wsn_laws.proofs.Heads.{plain_op, plain_form, plain_boolean}
use Rattle.wsn_laws.proofs.Texts.{IsTextOf, AreTextsOf, none, member, same_text, last, null_text, true_text, number_text, word_text, plain_text, quoted_text, ascii_text, object_text, typed_line}

-- ---- views

abbrev pub reason_json : List ℕ → Members → Members
reason_json [] others = others
reason_json (b ∷ reason) others = Member (codes "reason") (String (chars (b ∷ reason))) others

-- What is shown, and the members after it.
abbrev pub part_json : Shown → Members → Members
part_json (Text text) others = Member (codes "text") (String (chars text)) others
part_json (Ascii text) others = Member (codes "text") (String (chars text)) others
part_json (Hex bytes) others = Member (codes "hex") (String (encode_lower bytes)) others
part_json (Code code reason) others = Member (codes "code") (number code) (reason_json reason others)
part_json NoCode others = Member (codes "code") Null others

abbrev pub view_json : PayloadView → Members
view_json view = part_json view.shown (if view.more then Member (codes "truncated") True End else End)

-- Evidence, and the members after it.
abbrev pub end_json : ℕ → List ℕ → Members → Members
end_json n bytes others =
    Member (codes "hex") (String (encode_lower (drop (length bytes - n / 2) bytes))) (if nat_lt (n / 2) (length bytes) then Member (codes "truncated") True others else others)

-- ---- bad characters

abbrev pub character_members : ℕ → List ℕ → BadCharacter → Members
character_members n evidence character =
    Member (codes "offset") (number character.offset) (Member (codes "in_payload") (number character.in_payload)
    (Member (codes "hex") (String (encode_lower (shown_bytes n character)))
    (Member (codes "before") (String (chars (text_before n evidence character)))
    (if n == 0 || leaves_out n evidence character then Member (codes "truncated") True End else End))))

abbrev pub character_json : ℕ → List ℕ → Option BadCharacter → Members → Members
character_json n evidence None others = others
character_json n evidence (Some character) others = Member (codes "character") (Object (character_members n evidence character)) others

-- ---- items, after the offset

abbrev pub event_json : List ℕ → ℕ → ℕ → Members → Members
event_json word bytes frames others = Member (codes "event") (String word) (Member (codes "bytes") (number bytes) (Member (codes "frames") (number frames) others))

abbrev pub head_json : HeadInfo → Members → Members
head_json h others =
    Member (codes "fin") (boolean_json h.fin) (Member (codes "opcode") (String (op_word h.op))
    (Member (codes "key") (key_json h.key) (Member (codes "length") (number h.len) (Member (codes "form") (String (form_word h.form)) others))))

abbrev pub refusal_json : Refusal → Members → Members
refusal_json refusal others =
    Member (codes "place") (number refusal.offset) (Member (codes "reason") (String (word_of refusal.reason)) (Member (codes "code") (number (code_of refusal.reason)) others))

-- What a part of an entry says, and the members after it.
abbrev pub member_json : Part → Members → Members
member_json (Mark word) others = others
member_json (Word name word) others = Member name (String word) others
member_json (Numbered name k) others = Member name (number k) others
member_json (Lacks lacks) others = Member (codes "lacks") (optional_number lacks) others
member_json (Frame h) others = head_json h others
member_json (Refused refusal) others = refusal_json refusal others
member_json (Seen n view) others = part_json view.shown (if view.more then Member (codes "truncated") True others else others)
member_json (Ending n end) others = Member (codes "hex") (String (encode_lower end.bytes)) (if end.more then Member (codes "truncated") True others else others)
member_json (Bad n evidence character) others = character_json n evidence character others

abbrev pub members_json : List Part → Members
members_json [] = End
members_json (m ∷ ms) = member_json m (members_json ms)

abbrev pub item_json : ℕ → Item → Members
item_json n item = members_json (members n item)

-- ---- where it is

abbrev pub time_json : EntryPosition → Members → Members
time_json (InLine number (Some seconds)) others = Member (codes "time") (Number seconds) others
time_json (InLine number None) others = Member (codes "time") Null others
time_json (AtEnd (Some seconds)) others = Member (codes "time") (Number seconds) others
time_json (AtEnd None) others = Member (codes "time") Null others
time_json InStream others = others

abbrev pub line_json : EntryPosition → Members → Members
line_json (InLine line time) others = Member (codes "line") (number line) others
line_json (AtEnd time) others = others
line_json InStream others = others

abbrev pub placed_json : Role → EntryPosition → ℕ → Members → Members
placed_json role position offset others =
    line_json position (Member (codes "side") (String (side_word role)) (time_json position (Member (codes "offset") (number offset) others)))

abbrev pub shown_json : ℕ → Role → EntryPosition → Item → Members
shown_json n role position item = placed_json role position (offset_of item) (item_json n item)

-- ---- texts of views

truncated_by : (t : Bool) → AreTextsOf (if t then Member (codes "truncated") True End else End) (if t then codes ",\"truncated\":true" else [])
truncated_by true = last (codes "truncated") refl true_text
truncated_by false = none

pub take_bytes : (n : ℕ) (bytes : List ℕ) → IsBytes bytes → IsBytes (take n bytes)
take_bytes zero bytes are = tt
take_bytes (suc n) [] are = tt
take_bytes (suc n) (b ∷ bytes) are = (are.0, take_bytes n bytes are.1)

pub drop_bytes : (n : ℕ) (bytes : List ℕ) → IsBytes bytes → IsBytes (drop n bytes)
drop_bytes zero bytes are = are
drop_bytes (suc n) [] are = tt
drop_bytes (suc n) (b ∷ bytes) are = drop_bytes n bytes are.1

truncated_before : (t : Bool) (others : Members) (text : List ℕ) → AreTextsOf others text
    → AreTextsOf (if t then Member (codes "truncated") True others else others) ((if t then codes ",\"truncated\":true" else []) ++ text)
truncated_before true others text are = member (codes "truncated") refl true_text are
truncated_before false others text are = are

end_texts : (end : EndView) (others : Members) (text : List ℕ) → IsBytes end.bytes → AreTextsOf others text
    → AreTextsOf (Member (codes "hex") (String (encode_lower end.bytes)) (if end.more then Member (codes "truncated") True others else others)) (end_fields end ++ text)
end_texts end others text are after =
    same_text (end_fields end ++ text)
    (member (codes "hex") refl (word_text (encode_lower end.bytes) (plain_digits end.bytes are)) (truncated_before end.more others text after))
    (sym (append_assoc (string_field (codes "hex") (encode_lower end.bytes)) (truncated_field end.more) text))

shown_are_bytes : (none : Bool) (bytes : List ℕ) → IsBytes bytes → IsBytes (if none then [] else bytes)
shown_are_bytes true bytes are = tt
shown_are_bytes false bytes are = are

character_whole : (offset place hex before truncated end : List ℕ) → offset ++ ((place ++ (hex ++ (before ++ truncated))) ++ end) ≡ offset ++ place ++ hex ++ before ++ truncated ++ end
character_whole offset place hex before truncated end = simp append_assoc

character_text : (n : ℕ) (evidence : List ℕ) (character : BadCharacter) → IsCharacterInRange character
    → IsTextOf (Object (character_members n evidence character)) (character_object n evidence character)
character_text n evidence character fits =
    let text : List ℕ = text_before n evidence character in
    object_text (codes "offset") (character_object n evidence character) refl (number_text character.offset fits.0)
    (member (codes "in_payload") refl (number_text character.in_payload fits.1)
    (member (codes "hex") refl (word_text (encode_lower (shown_bytes n character)) (plain_digits (shown_bytes n character) (shown_are_bytes (n == 0) character.bytes fits.2)))
    (member (codes "before") refl (quoted_text text (whole_is_utf8 (from_character (bytes_before n evidence character))))
    (truncated_by (n == 0 || leaves_out n evidence character)))))
    (ap (λ (bytes : List ℕ). codes "{\"offset\":" ++ bytes)
    (character_whole (decimal character.offset) (number_field (codes "in_payload") character.in_payload) (string_field (codes "hex") (encode_lower (shown_bytes n character))) (field (codes "before") (quoted text)) (truncated_text n evidence character) (codes "}")))

character_texts : (n : ℕ) (evidence : List ℕ) (character : Option BadCharacter) (others : Members) (text : List ℕ) → IfSome character IsCharacterInRange → AreTextsOf others text
    → AreTextsOf (character_json n evidence character others) (character_fields n evidence character ++ text)
character_texts n evidence None others text fits are = are
character_texts n evidence (Some character) others text fits are = member (codes "character") refl (character_text n evidence character fits) are

reason_texts : (reason : List ℕ) (others : Members) (text : List ℕ) → IsUtf8 reason → AreTextsOf others text → AreTextsOf (reason_json reason others) (reason_field reason ++ text)
reason_texts [] others text utf8 are = are
reason_texts (b ∷ reason) others text utf8 are = member (codes "reason") refl (quoted_text (b ∷ reason) utf8) are

-- What is quoted is UTF-8, and bytes and numbers are in range.
abbrev pub IsShownInRange : Shown → Type 0
IsShownInRange (Text text) = IsUtf8 text
IsShownInRange (Ascii text) = IsUtf8 text
IsShownInRange (Hex bytes) = IsBytes bytes
IsShownInRange (Code code reason) = IsInU64 code × IsUtf8 reason
IsShownInRange NoCode = ⊤

part_texts : (shown : Shown) (others : Members) (text : List ℕ) → IsShownInRange shown → AreTextsOf others text → AreTextsOf (part_json shown others) (shown_fields shown ++ text)
part_texts (Text shown) others text fits are = member (codes "text") refl (quoted_text shown fits) are
part_texts (Ascii shown) others text fits are = member (codes "text") refl (ascii_text shown fits) are
part_texts (Hex bytes) others text fits are = member (codes "hex") refl (word_text (encode_lower bytes) (plain_digits bytes fits)) are
part_texts (Code code reason) others text fits are =
    same_text (shown_fields (Code code reason) ++ text)
    (member (codes "code") refl (number_text code fits.0) (reason_texts reason others text fits.1 are))
    (sym (append_assoc (number_field (codes "code") code) (reason_field reason) text))
part_texts NoCode others text fits are = member (codes "code") refl null_text are

pub view_texts : (view : PayloadView) → IsShownInRange view.shown → AreTextsOf (view_json view) (view_fields view)
view_texts view fits =
    part_texts view.shown (if view.more then Member (codes "truncated") True End else End) (truncated_field view.more) fits (truncated_by view.more)

body_by : (n : ℕ) (t : Bool) (body : List ℕ) → IsBytes body → IsShownInRange (if t then view_of_text n body else view_of_bytes n body).shown
body_by n true body are = part_is_utf8 n body
body_by n false body are = take_bytes (n / 2) body are

close_by : (code : ℕ) (reason : List ℕ) (t : Bool) → IsInU64 code → IsUtf8 reason → IsShownInRange (if t then as_view NoCode true else as_view (Code code reason) false).shown
close_by code reason true fits utf8 = tt
close_by code reason false fits utf8 = (fits, utf8)

close_fits : (n : ℕ) (body : List ℕ) → IsBytes body → IsUtf8 (drop 2 body) → IsShownInRange (view_of_close n body).shown
close_fits n [] are utf8 = tt
close_fits n (b ∷ []) are utf8 = tt
close_fits n (high ∷ low ∷ reason) are utf8 = close_by (high * 256 + low) reason (n == 0) (code_small high low are.0 are.1.0) utf8
  where
    code_small : (high low : ℕ) → high < 256 → low < 256 → IsInU64 (high * 256 + low)
    code_small high low one two = omega arith

event_fits : (n : ℕ) (event : MeantEvent) → IsBytes (payload_in event) → HasTextReason event → IsShownInRange (view_of_event n event).shown
event_fits n (Message kinds.Text payload) are reason = part_is_utf8 n payload
event_fits n (Message kinds.Binary payload) are reason = take_bytes (n / 2) payload are
event_fits n (Control ops.Close body) are reason = close_fits n body are reason
event_fits n (Control op body) are reason = body_by n (is_printable body) body are

unfinished_fits : (n : ℕ) (event : MeantEvent) → IsBytes (payload_in event) → IsShownInRange (view_of_unfinished n event).shown
unfinished_fits n (Message kinds.Text payload) are = part_is_utf8 n payload
unfinished_fits n (Message kinds.Binary payload) are = take_bytes (n / 2) payload are
unfinished_fits n (Control op body) are = take_bytes (n / 2) body are

-- ---- texts of items

plain_event : (event : MeantEvent) → are_unescaped (event_word event) ≡ true
plain_event (Message kinds.Text payload) = refl
plain_event (Message kinds.Binary payload) = refl
plain_event (Control op body) = plain_op op

pub size_fits : (event : MeantEvent) → IsInU64 (length (payload_in event)) → IsInU64 (event_size event)
size_fits (Message kind payload) fits = fits
size_fits (Control op body) fits = fits

optional_text : (n : Option ℕ) → IfSome n IsInU64 → IsTextOf (optional_number n) (number_or_null n)
optional_text n fits = plain_text (optional_number n) (number_or_null n) (plain_optional n fits) (optional_written n)

five : (a b c d e rest : List ℕ) → a ++ (b ++ (c ++ (d ++ (e ++ rest)))) ≡ (a ++ b ++ c ++ d ++ e) ++ rest
five a b c d e rest = simp append_assoc

three : (a b c rest : List ℕ) → a ++ (b ++ (c ++ rest)) ≡ (a ++ b ++ c) ++ rest
three a b c rest = simp append_assoc

-- Names and words need no escape, and numbers and bytes are in range.
abbrev IsInRange : Part → Type 0
IsInRange (Mark word) = ⊤
IsInRange (Word name word) = (are_unescaped name ≡ true) × (are_unescaped word ≡ true)
IsInRange (Numbered name k) = (are_unescaped name ≡ true) × IsInU64 k
IsInRange (Lacks lacks) = IfSome lacks IsInU64
IsInRange (Frame h) = IsHeadInRange h
IsInRange (Refused refusal) = IsInU64 refusal.offset
IsInRange (Seen n view) = IsShownInRange view.shown
IsInRange (Ending n end) = IsBytes end.bytes
IsInRange (Bad n evidence character) = IfSome character IsCharacterInRange

member_texts : (m : Part) (others : Members) (text : List ℕ) → IsInRange m → AreTextsOf others text → AreTextsOf (member_json m others) (member_field m ++ text)
member_texts (Mark word) others text fits are = are
member_texts (Word name word) others text fits are = member name fits.0 (word_text word fits.1) are
member_texts (Numbered name k) others text fits are = member name fits.0 (number_text k fits.1) are
member_texts (Lacks lacks) others text fits are = member (codes "lacks") refl (optional_text lacks fits) are
member_texts (Frame h) others text fits are =
    same_text (head_members h ++ text)
    (member (codes "fin") refl (plain_text (boolean_json h.fin) (boolean h.fin) (plain_boolean h.fin) (boolean_is h.fin).is)
    (member (codes "opcode") refl (word_text (op_word h.op) (plain_op h.op))
    (member (codes "key") refl (plain_text (key_json h.key) (key_value h.key) (key_plain h.key fits.key) (key_is h.key).is)
    (member (codes "length") refl (number_text h.len fits.len)
    (member (codes "form") refl (word_text (form_word h.form) (plain_form h.form)) are)))))
    (five (field (codes "fin") (boolean h.fin)) (string_field (codes "opcode") (op_word h.op)) (field (codes "key") (key_value h.key)) (number_field (codes "length") h.len) (string_field (codes "form") (form_word h.form)) text)
member_texts (Refused refusal) others text fits are =
    same_text (refusal_fields (codes "place") refusal ++ text)
    (member (codes "place") refl (number_text refusal.offset fits) (member (codes "reason") refl (word_text (word_of refusal.reason) (plain_reason refusal.reason))
    (member (codes "code") refl (number_text (code_of refusal.reason) (code_fits refusal.reason)) are)))
    (three (number_field (codes "place") refusal.offset) (string_field (codes "reason") (word_of refusal.reason)) (number_field (codes "code") (code_of refusal.reason)) text)
member_texts (Seen n view) others text fits are =
    same_text (view_fields view ++ text)
    (part_texts view.shown (if view.more then Member (codes "truncated") True others else others) (truncated_field view.more ++ text) fits (truncated_before view.more others text are))
    (sym (append_assoc (shown_fields view.shown) (truncated_field view.more) text))
member_texts (Ending n end) others text fits are = end_texts end others text fits are
member_texts (Bad n evidence character) others text fits are = character_texts n evidence character others text fits are

abbrev AreInRange : List Part → Type 0
AreInRange [] = ⊤
AreInRange (m ∷ ms) = IsInRange m × AreInRange ms

all_texts : (ms : List Part) → AreInRange ms → AreTextsOf (members_json ms) (flat_map member_field ms)
all_texts [] fits = none
all_texts (m ∷ ms) fits = member_texts m (members_json ms) (flat_map member_field ms) fits.0 (all_texts ms fits.1)

members_fit : (n : ℕ) (item : Item) → IsItemInRange item → ShowsTextReason item → AreInRange (members n item)
members_fit n (Event offset event frames) fits reason =
    ((refl, plain_event event), ((refl, size_fits event fits.2.0), ((refl, fits.1), (event_fits n event fits.2.1 reason, tt))))
members_fit n (Head h) fits reason = (fits, tt)
members_fit n (Unfinished offset event frames lacks) fits reason =
    (tt, ((refl, plain_event event), ((refl, size_fits event fits.2.0), ((refl, fits.1), (fits.3, (unfinished_fits n event fits.2.1, tt))))))
members_fit n (UnfinishedHead offset) fits reason = (tt, ((refl, refl), ((refl, omega arith), ((refl, omega arith), (tt, (tt, tt))))))
members_fit n (RefusedFrame offset refusal evidence character) fits reason =
    (fits.1, (drop_bytes (length evidence - n / 2) evidence fits.2.1, (fits.3, tt)))
members_fit n (Unread offset bytes) fits reason = (tt, ((refl, fits.1.0), (take_bytes (n / 2) bytes fits.1.1, tt)))
members_fit n (Tail offset bytes) fits reason = (tt, ((refl, fits.1.0), (take_bytes (n / 2) bytes fits.1.1, tt)))

-- The members after the offset, as they are written.
abbrev pub fields_of : ℕ → Item → List ℕ
fields_of n item = flat_map member_field (members n item)

pub item_texts : (n : ℕ) (item : Item) → IsItemInRange item → ShowsTextReason item → AreTextsOf (item_json n item) (fields_of n item)
item_texts n item fits reason = all_texts (members n item) (members_fit n item fits reason)

-- ---- times

seconds_integer : (whole : List ℕ) → AllByRecursion (λ b. (48 ≤ b) × (b ≤ 57)) whole → 1 ≤ length whole → ((digit : ℕ) (following : List ℕ) → whole ≡ 48 ∷ digit ∷ following → ⊥) → IsInteger whole
seconds_integer [] are some no_zero = absurd (omega arith)
seconds_integer (b ∷ []) are some no_zero = elim (cases_lt 48 b) [
  | inl above ↦ inr (b, [], refl, above, are.0.1, tt)
  | inr low ↦ inl (only b (omega (arith, are.0.0)))
]
  where
    only : (b : ℕ) → b ≡ 48 → b ∷ [] ≡ codes "0"
    only b is = ap (λ (c : ℕ). c ∷ []) is
seconds_integer (b ∷ c ∷ others) are some no_zero = elim (cases_lt 48 b) [
  | inl above ↦ inr (b, c ∷ others, refl, above, are.0.1, are.1)
  | inr low ↦ absurd (no_zero c others (ap (λ (d : ℕ). d ∷ c ∷ others) (equal b (omega (arith, are.0.0)))))
]
  where
    equal : (b : ℕ) → b ≡ 48 → b ≡ 48
    equal b is = is

seconds_number : (seconds : List ℕ) → IsSeconds seconds → IsNumber seconds
seconds_number seconds is = (
  [],
  seconds,
  refl,
  inl refl,
  (
    is.whole,
    codes "." ++ is.fraction,
    is.is ∙ append_assoc is.whole (codes ".") is.fraction,
    seconds_integer is.whole is.whole_is.digits is.whole_is.some is.whole_is.no_leading_zero,
    (
      codes "." ++ is.fraction,
      [],
      sym (append-nil (codes "." ++ is.fraction)),
      inr (codes ".", is.fraction, refl, refl, (some is.fraction is.fraction_is.some, is.fraction_is.digits)),
      inl refl,
    ),
  ),
)
  where
    some : (fraction : List ℕ) → 1 ≤ length fraction → fraction ≢ []
    some fraction long none = absurd (omega (arith, ap length none))

-- ---- the whole

pub time_texts : (position : EntryPosition) (others : Members) (text : List ℕ) → IsPositionInRange position → AreTextsOf others text
    → AreTextsOf (time_json position others) ((time_key position ++ time_value position) ++ text)
time_texts (InLine line (Some seconds)) others text fits are = member (codes "time") refl (record { is = (refl, seconds_number seconds fits.1) }) are
time_texts (InLine line None) others text fits are = member (codes "time") refl null_text are
time_texts (AtEnd (Some seconds)) others text fits are = member (codes "time") refl (record { is = (refl, seconds_number seconds fits) }) are
time_texts (AtEnd None) others text fits are = member (codes "time") refl null_text are
time_texts InStream others text fits are = are

pub line_texts : (position : EntryPosition) (others : Members) (text : List ℕ) → IsPositionInRange position → AreTextsOf others text
    → AreTextsOf (line_json position others) (line_field position ++ text)
line_texts (InLine line time) others text fits are = member (codes "line") refl (number_text line fits.0) are
line_texts (AtEnd time) others text fits are = are
line_texts InStream others text fits are = are

pub plain_side : (role : Role) → are_unescaped (side_word role) ≡ true
plain_side Client = refl
plain_side Server = refl

pub offset_fits : (item : Item) → IsItemInRange item → IsInU64 (offset_of item)
offset_fits (Event offset event frames) fits = fits.0
offset_fits (Head h) fits = fits.offset
offset_fits (Unfinished offset event frames lacks) fits = fits.0
offset_fits (UnfinishedHead offset) fits = fits
offset_fits (RefusedFrame offset refusal evidence character) fits = fits.0
offset_fits (Unread offset bytes) fits = fits.0
offset_fits (Tail offset bytes) fits = fits.0

pub plain_type : (item : Item) → are_unescaped (item_type item) ≡ true
plain_type (Event offset event frames) = refl
plain_type (Head h) = refl
plain_type (Unfinished offset event frames lacks) = refl
plain_type (UnfinishedHead offset) = refl
plain_type (RefusedFrame offset refusal evidence character) = refl
plain_type (Unread offset bytes) = refl
plain_type (Tail offset bytes) = refl

-- The text of the members after the type.
abbrev pub text_after : ℕ → Role → EntryPosition → Item → List ℕ
text_after n role position item =
    line_field position ++ (string_field (codes "side") (side_word role) ++ ((time_key position ++ time_value position) ++ (number_field (codes "offset") (offset_of item) ++ fields_of n item)))

shown_texts : (n : ℕ) (role : Role) (position : EntryPosition) (item : Item) → IsPositionInRange position → IsItemInRange item → ShowsTextReason item
    → AreTextsOf (shown_json n role position item) (text_after n role position item)
shown_texts n role position item place fits reason =
    let offset = member (codes "offset") refl (number_text (offset_of item) (offset_fits item fits)) (item_texts n item fits reason) in
    let time = time_texts position (Member (codes "offset") (number (offset_of item)) (item_json n item)) (number_field (codes "offset") (offset_of item) ++ fields_of n item) place offset in
    let side = member (codes "side") refl (word_text (side_word role) (plain_side role)) time in
    line_texts position (Member (codes "side") (String (side_word role)) (time_json position (Member (codes "offset") (number (offset_of item)) (item_json n item))))
    (string_field (codes "side") (side_word role) ++ ((time_key position ++ time_value position) ++ (number_field (codes "offset") (offset_of item) ++ fields_of n item))) place side

ten : (a k q l s t v o f z : List ℕ) → a ++ (k ++ (q ++ ((l ++ (s ++ ((t ++ v) ++ (o ++ f)))) ++ z))) ≡ (a ++ k ++ q ++ l ++ s ++ t ++ v) ++ o ++ f ++ z
ten a k q l s t v o f z = simp append_assoc

whole : (n : ℕ) (role : Role) (position : EntryPosition) (item : Item)
    → codes "{\"type\":\"" ++ (item_type item ++ (codes "\"" ++ (text_after n role position item ++ codes "}\n"))) ≡ item_object n role position item
whole n role position item =
    ten (codes "{\"type\":\"") (item_type item) (codes "\"") (line_field position) (string_field (codes "side") (side_word role)) (time_key position) (time_value position) (number_field (codes "offset") (offset_of item)) (fields_of n item) (codes "}\n")

abbrev pub shown_value : ℕ → Role → EntryPosition → Item → Value
shown_value n role position item = Object (Member (codes "type") (String (item_type item)) (shown_json n role position item))

pub shown_line : (n : ℕ) (role : Role) (position : EntryPosition) (item : Item) → IsPositionInRange position → IsItemInRange item → ShowsTextReason item
    → IsJsonLine (shown_value n role position item) (item_object n role position item)
shown_line n role position item place fits reason =
    subst (IsJsonLine (shown_value n role position item)) (whole n role position item)
    (typed_line (item_type item) (text_after n role position item) (shown_json n role position item) (plain_type item) (shown_texts n role position item place fits reason))
