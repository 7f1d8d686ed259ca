-- Nothing of a line of `show` is hidden but the LF at its end.
use Rattle.std.proofs.Common.{◌≡◌, ℕ, zero, suc, ◌+◌, ◌*◌, ◌-◌, ◌/◌, ◌%◌, ◌<◌, Bool, true, false, nat_lt, ◌==◌, ◌&&◌, if◌then◌else◌, Option, None, Some, List, [], ◌∷◌, ◌++◌, length, take, drop, codes, decimal, refl, inl, inr, arith}
use Rattle.std.specs.Prelude.{flat_map, ⊤}
use Rattle.std.specs.Fmt.{digits, digits_onto, digit_glyph}
use Rattle.std.specs.List.{AllByRecursion}
use Rattle.std.specs.Option.{IfSome}
use Rattle.std.specs.Str.{IsUtf8, chars}
use Rattle.std.proofs.lemmas.Bool.{cases_Bool, and_parts}
use Rattle.std.proofs.lemmas.Bool.Decides.{nat_tests}
use Rattle.hex.specs.Hex.{encode_lower}
use Rattle.wsn_wire.specs.declared.endpoint.Role.{Role}
use Rattle.wsn_wire.specs.declared.endpoint.Role.TheVariants.{Client, Server}
use Rattle.wsn_wire.specs.declared.opcode.Kind.TheVariants as kinds
use Rattle.wsn_wire.specs.declared.opcode.Op.{Op}
use Rattle.wsn_wire.specs.declared.opcode.Op.TheVariants as ops
use Rattle.wsn_wire.specs.declared.refusal.Reason.{Reason}
use Rattle.wsn_wire.specs.declared.refusal.Reason.TheVariants as reasons
use Rattle.wsn_wire.specs.declared.length_encoding.Form.{Form}
use Rattle.wsn_wire.specs.declared.length_encoding.Form.TheVariants as forms
use Rattle.wsn_wire.specs.Frame.{IsBytes, key_bytes}
use Rattle.wsn_wire.specs.Refusal.{word_of, code_of}
use Rattle.wsn_rules.specs.declared.head_info.HeadInfo.{HeadInfo}
use Rattle.wsn_rules.specs.declared.verdict.Refusal.{Refusal}
use Rattle.wsn_rules.specs.BadCharacter.{BadCharacter}
use Rattle.wsn_rules.specs.Meaning.{MeantEvent, Message, Control, payload_in}
use Rattle.wsn_rules.specs.ShownStream.{Item}
use Rattle.wsn_rules.specs.ShownStream.Item.{Event, Head, Unfinished, UnfinishedHead, RefusedFrame, Unread, Tail}
use Rattle.wsn_rules.specs.ShownOffsets.{offset_of}
use Rattle.wsn_print.specs.Fields.{number_text, refusal_text}
use Rattle.wsn_print.specs.HeadText.{fin_word, op_word, key_text, form_text, head_fields}
use Rattle.wsn_print.specs.EscapedText.{is_from, quoted_character, quoted, comment_line, comment_text}
use Rattle.wsn_shown_text.specs.ShownText.{hex_text, end_view, reason_text, shown_text, seen_text, view_text, member_text, role_letter, time_text, front_text, item_line, end_line}
use Rattle.wsn_shown_text.specs.Members.{Member, event_word, event_size, members, end_members}
use Rattle.wsn_shown_text.specs.Views.{Shown, PayloadView, is_printable, view_of_text, view_of_bytes, view_of_close, view_of_event, view_of_unfinished}
use Rattle.wsn_shown_text.specs.Views.Shown.{Text, Ascii, Hex, Code, NoCode}
use Rattle.wsn_print.specs.ShownParts.{HasTextReason}
use Rattle.wsn_shown_text.proofs.HeldViews.{as_view}
use Rattle.wsn_shown_text.specs.CharacterText.{from_character, bytes_before, text_before, leaves_out, byte_escape, character_text, character_view, character_line}
use Rattle.wsn_shown_text.specs.QuotedTexts.{IsAllVisible, bytes_in, ShowsTextReason, IsVisibleLine}
use Rattle.wsn_shown_text.proofs.TextFronts.{part_is_utf8, whole_is_utf8}
use Rattle.wsn_shown_text.proofs.VisibleTexts.{IsPrintable, visible_append, visible_ascii, digits_printable, quoted_characters_visible, quoted_text_visible, comment_visible}

-- A text of which nothing is hidden.
pub record Seen (bytes : List ℕ) : Type 0 where
  pub is : IsAllVisible bytes

infixl 40 ◌⊕◌
pub ◌⊕◌ : {xs ys : List ℕ} → Seen xs → Seen ys → Seen (xs ++ ys)
◌⊕◌ {xs} {ys} one two = record { is = visible_append xs ys one.is two.is }

from_test : (b : ℕ) → is_from 0x20 0x7e b ≡ true → IsPrintable b
from_test b test = (grind (arith, nat_tests), grind (arith, nat_tests))

all_from_test : (bytes : List ℕ) → is_printable bytes ≡ true → AllByRecursion IsPrintable bytes
all_from_test [] test = tt
all_from_test (b ∷ bytes) test =
    let parts = and_parts (is_from 0x20 0x7e b) (is_printable bytes) test in
    (from_test b parts.0, all_from_test bytes parts.1)

seen_ascii : (bytes : List ℕ) → AllByRecursion IsPrintable bytes → Seen bytes
seen_ascii bytes each = record { is = visible_ascii bytes each }

pub word : (bytes : List ℕ) → is_printable bytes ≡ true → Seen bytes
word bytes test = seen_ascii bytes (all_from_test bytes test)

pub seen_if : (b : Bool) (xs ys : List ℕ) → Seen xs → Seen ys → Seen (if b then xs else ys)
seen_if true xs ys one two = one
seen_if false xs ys one two = two

-- ---- numbers

glyph : (d : ℕ) → d < 10 → IsPrintable (digit_glyph false d)
glyph d small = (grind (arith, nat_tests), grind (arith, nat_tests))

digits_seen : (k n : ℕ) (acc : List ℕ) → AllByRecursion IsPrintable acc → AllByRecursion IsPrintable (digits_onto k 10 false n acc)
digits_seen zero n acc each = each
digits_seen (suc k) n acc each =
    let last : IsPrintable (digit_glyph false (n % 10)) = glyph (n % 10) (omega arith) in
    elim (cases_Bool (n / 10 == 0)) [
      | inl end ↦ rw end (last, each)
      | inr more ↦ rw more (digits_seen k (n / 10) (digit_glyph false (n % 10) ∷ acc) (last, each))
    ]

pub number : (n : ℕ) → Seen (decimal n)
unfolding digits
number n = seen_ascii (decimal n) (digits_seen 64 n [] tt)

number_or_dash : (n : Option ℕ) → Seen (number_text n)
number_or_dash None = word (codes "-") refl
number_or_dash (Some n) = number n

-- ---- words

pub reason_word : (reason : Reason) → is_printable (word_of reason) ≡ true
reason_word reasons.ReservedBits = refl
reason_word reasons.ReservedOpcode = refl
reason_word reasons.ControlNotFinal = refl
reason_word reasons.NothingToContinue = refl
reason_word reasons.MessageOpen = refl
reason_word reasons.MaskMissing = refl
reason_word reasons.MaskPresent = refl
reason_word reasons.ControlTooLong = refl
reason_word reasons.CloseOneByte = refl
reason_word reasons.LengthTopBit = refl
reason_word reasons.LengthNotMinimal = refl
reason_word reasons.MessageTooBig = refl
reason_word reasons.CloseCode = refl
reason_word reasons.CloseReason = refl
reason_word reasons.TextBad = refl
reason_word reasons.TextCut = refl
reason_word reasons.TooManyFrames = refl

pub opcode_word : (op : Op) → is_printable (op_word op) ≡ true
opcode_word ops.Continue = refl
opcode_word ops.Text = refl
opcode_word ops.Binary = refl
opcode_word ops.Close = refl
opcode_word ops.Ping = refl
opcode_word ops.Pong = refl

pub seen_word : (event : MeantEvent) → Seen (event_word event)
seen_word (Message kinds.Text payload) = word (codes "text") refl
seen_word (Message kinds.Binary payload) = word (codes "binary") refl
seen_word (Control op body) = word (op_word op) (opcode_word op)

letter : (role : Role) → Seen (role_letter role)
letter Client = word (codes "C") refl
letter Server = word (codes "S") refl

pub space : Seen (codes " ")
space = word (codes " ") refl

pub seconds : (time : Option (List ℕ)) → IfSome time IsAllVisible → Seen (time_text time)
seconds None visible = word (codes "-") refl
seconds (Some text) visible = record { is = visible }

front : (role : Role) (time : Option (List ℕ)) (offset : ℕ) → IfSome time IsAllVisible → Seen (front_text role time offset)
front role time offset visible = letter role ⊕ space ⊕ seconds time visible ⊕ (space ⊕ number offset)

verdict : (refusal : Refusal) → Seen (refusal_text refusal)
verdict refusal =
    word (codes "refused ") refl ⊕ number refusal.offset ⊕ space ⊕ word (word_of refusal.reason) (reason_word refusal.reason)
    ⊕ space ⊕ number (code_of refusal.reason)

-- ---- views

pub take_bytes : (n : ℕ) (bytes : List ℕ) → IsBytes bytes → IsBytes (take n bytes)
take_bytes zero bytes fits = tt
take_bytes (suc n) [] fits = tt
take_bytes (suc n) (b ∷ bytes) fits = (fits.0, take_bytes n bytes fits.1)

pub drop_bytes : (n : ℕ) (bytes : List ℕ) → IsBytes bytes → IsBytes (drop n bytes)
drop_bytes zero bytes fits = fits
drop_bytes (suc n) [] fits = tt
drop_bytes (suc n) (b ∷ bytes) fits = drop_bytes n bytes fits.1

pub hex : (bytes : List ℕ) → IsBytes bytes → Seen (encode_lower bytes)
hex bytes fits = seen_ascii (encode_lower bytes) (digits_printable bytes fits)

pub hex_or_dash : (bytes : List ℕ) → IsBytes bytes → Seen (hex_text bytes)
hex_or_dash [] fits = word (codes "-") refl
hex_or_dash (b ∷ bytes) fits = hex (b ∷ bytes) fits

in_quotes : (text : List ℕ) → IsUtf8 text → Seen (quoted text)
in_quotes text utf8 = record { is = quoted_text_visible text utf8 }

reason_seen : (reason : List ℕ) → IsUtf8 reason → Seen (reason_text reason)
reason_seen [] utf8 = word [] refl
reason_seen (b ∷ reason) utf8 = space ⊕ in_quotes (b ∷ reason) utf8

-- What is quoted is UTF-8, and bytes are bytes.
abbrev pub CanBeSeen : Shown → Type 0
CanBeSeen (Text text) = IsUtf8 text
CanBeSeen (Ascii text) = ⊥
CanBeSeen (Hex bytes) = IsBytes bytes
CanBeSeen (Code code reason) = IsUtf8 reason
CanBeSeen NoCode = ⊤

shown_seen : (shown : Shown) → CanBeSeen shown → Seen (shown_text shown)
shown_seen (Text text) can = in_quotes text can
shown_seen (Ascii text) can = absurd can
shown_seen (Hex bytes) can = hex_or_dash bytes can
shown_seen (Code code reason) can = number code ⊕ reason_seen reason can
shown_seen NoCode can = word (codes "-") refl

view_seen : (n : ℕ) (view : PayloadView) → CanBeSeen view.shown → Seen (view_text n view)
view_seen n view can =
    seen_if (n == 0 && view.more) (codes "-") (seen_text view) (word (codes "-") refl)
    (shown_seen view.shown can ⊕ seen_if view.more (codes " ..") [] (word (codes " ..") refl) (word [] refl))

pub end_seen : (n : ℕ) (bytes : List ℕ) → IsBytes bytes → Seen (end_view n bytes)
end_seen n bytes fits =
    seen_if (n == 0) (codes "-") ((if nat_lt (n / 2) (length bytes) then codes ".." else []) ++ encode_lower (drop (length bytes - n / 2) bytes)) (word (codes "-") refl)
    (seen_if (nat_lt (n / 2) (length bytes)) (codes "..") [] (word (codes "..") refl) (word [] refl)
    ⊕ hex (drop (length bytes - n / 2) bytes) (drop_bytes (length bytes - n / 2) bytes fits))

body_by : (n : ℕ) (t : Bool) (body : List ℕ) → IsBytes body → CanBeSeen (if t then view_of_text n body else view_of_bytes n body).shown
body_by n true body fits = part_is_utf8 n body
body_by n false body fits = take_bytes (n / 2) body fits

close_by : (code : ℕ) (reason : List ℕ) (t : Bool) → IsUtf8 reason → CanBeSeen (if t then as_view NoCode true else as_view (Code code reason) false).shown
close_by code reason true utf8 = tt
close_by code reason false utf8 = utf8

close_seen : (n : ℕ) (body : List ℕ) → IsUtf8 (drop 2 body) → CanBeSeen (view_of_close n body).shown
close_seen n [] utf8 = tt
close_seen n (high ∷ []) utf8 = tt
close_seen n (high ∷ low ∷ reason) utf8 = close_by (high * 256 + low) reason (n == 0) utf8

pub event_seen : (n : ℕ) (event : MeantEvent) → IsBytes (payload_in event) → HasTextReason event → CanBeSeen (view_of_event n event).shown
event_seen n (Message kinds.Text payload) fits reason = part_is_utf8 n payload
event_seen n (Message kinds.Binary payload) fits reason = take_bytes (n / 2) payload fits
event_seen n (Control ops.Close body) fits reason = close_seen n body reason
event_seen n (Control ops.Continue body) fits reason = body_by n (is_printable body) body fits
event_seen n (Control ops.Text body) fits reason = body_by n (is_printable body) body fits
event_seen n (Control ops.Binary body) fits reason = body_by n (is_printable body) body fits
event_seen n (Control ops.Ping body) fits reason = body_by n (is_printable body) body fits
event_seen n (Control ops.Pong body) fits reason = body_by n (is_printable body) body fits

pub unfinished_seen : (n : ℕ) (event : MeantEvent) → IsBytes (payload_in event) → CanBeSeen (view_of_unfinished n event).shown
unfinished_seen n (Message kinds.Text payload) fits = part_is_utf8 n payload
unfinished_seen n (Message kinds.Binary payload) fits = take_bytes (n / 2) payload fits
unfinished_seen n (Control op body) fits = take_bytes (n / 2) body fits

-- ---- lines

last_or_not : (fin : Bool) → Seen (fin_word fin)
last_or_not true = word (codes "fin") refl
last_or_not false = word (codes "more") refl

key_seen : (key : Option (List ℕ)) → IsBytes (key_bytes key) → Seen (key_text key)
key_seen None fits = word (codes "-") refl
key_seen (Some key) fits = hex key fits

form_seen : (form : Form) → Seen (form_text form)
form_seen forms.Shortest = word [] refl
form_seen forms.Two = word (codes " two") refl
form_seen forms.Eight = word (codes " eight") refl

head : (info : HeadInfo) → IsBytes (key_bytes info.key) → Seen (head_fields info)
head info fits =
    last_or_not info.fin ⊕ space ⊕ word (op_word info.op) (opcode_word info.op) ⊕ space ⊕ key_seen info.key fits ⊕ space ⊕ number info.len
    ⊕ form_seen info.form

abbrev AllSeen : List Member → Type 0
AllSeen [] = ⊤
AllSeen (m ∷ members) = Seen (member_text m) × AllSeen members

all_seen : (members : List Member) → AllSeen members → Seen (flat_map member_text members)
all_seen [] each = word [] refl
all_seen (m ∷ members) each = each.0 ⊕ all_seen members each.1

item : (n : ℕ) (item : Item) → IsBytes (bytes_in item) → ShowsTextReason item → AllSeen (members n item)
item n (Event offset event frames) fits reason =
    (space ⊕ seen_word event, (space ⊕ number (event_size event), (space ⊕ number frames, (space ⊕ view_seen n (view_of_event n event) (event_seen n event fits reason), tt))))
item n (Head info) fits reason = (space ⊕ head info fits, tt)
item n (Unfinished offset event frames lacks) fits reason = (
  word (codes " unfinished") refl,
  (
    space ⊕ seen_word event,
    (
      space ⊕ number (event_size event),
      (space ⊕ number frames, (word (codes " lacks ") refl ⊕ number_or_dash lacks, (space ⊕ view_seen n (view_of_unfinished n event) (unfinished_seen n event fits), tt))),
    ),
  ),
)
item n (UnfinishedHead offset) fits reason = (
  word (codes " unfinished") refl,
  (
    word (codes " head") refl,
    (space ⊕ number 0, (space ⊕ number 0, (word (codes " lacks -") refl, (space ⊕ view_seen n (as_view (Hex []) false) tt, tt)))),
  ),
)
item n (RefusedFrame offset refusal evidence character) fits reason = (space ⊕ verdict refusal, (space ⊕ end_seen n evidence fits, (word [] refl, tt)))
item n (Unread offset bytes) fits reason =
    (word (codes " unread") refl, (space ⊕ number (length bytes), (space ⊕ view_seen n (view_of_bytes n bytes) (take_bytes (n / 2) bytes fits), tt)))
item n (Tail offset bytes) fits reason =
    (word (codes " tail") refl, (space ⊕ number (length bytes), (space ⊕ view_seen n (view_of_bytes n bytes) (take_bytes (n / 2) bytes fits), tt)))

pub item_line_visible : (n : ℕ) (role : Role) (time : Option (List ℕ)) (shown : Item) → IfSome time IsAllVisible → IsBytes (bytes_in shown) → ShowsTextReason shown
    → IsVisibleLine (item_line n role time shown)
item_line_visible n role time shown visible fits reason =
    let line = front role time (offset_of shown) visible ⊕ all_seen (members n shown) (item n shown fits reason) in
    (front_text role time (offset_of shown) ++ flat_map member_text (members n shown), refl, line.is)

-- ---- bad characters

escapes : (bytes : List ℕ) → IsBytes bytes → Seen (flat_map byte_escape bytes)
escapes [] fits = word [] refl
escapes (b ∷ bytes) fits = word (codes "\\x") refl ⊕ hex (b ∷ []) (fits.0, tt) ⊕ escapes bytes fits.1

before : (n : ℕ) (evidence : List ℕ) (character : BadCharacter) → Seen (flat_map quoted_character (chars (text_before n evidence character)))
before n evidence character = record {
  is = quoted_characters_visible (text_before n evidence character) (whole_is_utf8 (from_character (bytes_before n evidence character)));
}

up_to_it : (n : ℕ) (evidence : List ℕ) (character : BadCharacter) → IsBytes character.bytes → Seen (character_text n evidence character)
up_to_it n evidence character fits =
    seen_if (leaves_out n evidence character) (codes "..") [] (word (codes "..") refl) (word [] refl)
    ⊕ (word (codes "\"") refl ⊕ before n evidence character ⊕ escapes character.bytes fits ⊕ word (codes "\"") refl)

character_seen : (n : ℕ) (evidence : List ℕ) (character : BadCharacter) → IsBytes character.bytes → Seen (character_view n evidence character)
character_seen n evidence character fits =
    seen_if (n == 0) (codes "- -") (encode_lower character.bytes ++ codes " " ++ character_text n evidence character) (word (codes "- -") refl)
    (hex character.bytes fits ⊕ space ⊕ up_to_it n evidence character fits)

pub character_line_visible : (n : ℕ) (role : Role) (time : Option (List ℕ)) (evidence : List ℕ) (character : BadCharacter) → IfSome time IsAllVisible
    → IsBytes character.bytes → IsVisibleLine (character_line n role time evidence character)
character_line_visible n role time evidence character visible fits =
    let line =
    front role time character.offset visible ⊕ word (codes " bad-character ") refl ⊕ number character.in_payload ⊕ space
    ⊕ character_seen n evidence character fits in (
      front_text role time character.offset ++ codes " bad-character " ++ decimal character.in_payload ++ codes " "
          ++ character_view n evidence character,
      refl,
      line.is,
    )

-- ---- end marks and comments

pub end_line_visible : (role : Role) (time : Option (List ℕ)) (sent : ℕ) → IfSome time IsAllVisible → IsVisibleLine (end_line role time sent)
end_line_visible role time sent visible =
    let line = front role time sent visible ⊕ all_seen end_members (word (codes " end") refl, tt) in
    (front_text role time sent ++ flat_map member_text end_members, refl, line.is)

pub comment_line_visible : (text : List ℕ) → IsBytes text → IsVisibleLine (comment_line text)
comment_line_visible text fits = (comment_text text, refl, comment_visible text fits)
