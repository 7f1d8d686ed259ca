-- The lines of `show` for people, each with its LF: what `Members` says of an item, in columns with least widths.
use Rattle.std.specs.Prelude.{ℕ, ◌-◌, ◌==◌, ◌&&◌, nat_lt, Bool, true, false, if◌then◌else◌, Option, None, Some, List, [], ◌∷◌, ◌++◌, length, replicate, flat_map, codes, decimal}
use Rattle.std.specs.Str.{bytes_eq}
use Rattle.hex.specs.Hex.{encode_lower}
use Rattle.wsn_wire.specs.Refusal.{word_of, code_of}
use Rattle.wsn_wire.specs.declared.endpoint.Role.{Role}
use Rattle.wsn_wire.specs.declared.endpoint.Role.TheVariants.{Client, Server}
use Rattle.wsn_wire.specs.declared.length_encoding.Form.{Form}
use Rattle.wsn_wire.specs.declared.length_encoding.Form.TheVariants as forms
use Rattle.wsn_rules.specs.BadCharacter.{BadCharacter}
use Rattle.wsn_rules.specs.declared.head_info.HeadInfo.{HeadInfo}
use Rattle.wsn_rules.specs.declared.verdict.Refusal.{Refusal}
use Rattle.wsn_rules.specs.ShownStream.{Item}
use Rattle.wsn_rules.specs.ShownOffsets.{offset_of}
use Rattle.wsn_print.specs.HeadText.{op_word}
use Rattle.wsn_print.specs.EscapedText.{comment_text}
use Rattle.wsn_print.specs.ShownParts.{EntryPosition, time_at}
use Rattle.wsn_print.specs.ShownParts.EntryPosition.{InStream}
use Rattle.wsn_shown_text.specs.Members.{Member, members}
use Rattle.wsn_shown_text.specs.Members.Member.{Mark, Word, Number, Lacks, Frame, Refused, Seen, Ending, Bad}
use Rattle.wsn_shown_text.specs.ShownText.{hex_text, end_text, time_text}
use Rattle.wsn_shown_text.specs.CharacterText.{leaves_out, text_before}
use Rattle.wsn_shown_text.specs.Views.{Shown, PayloadView, EndView}
use Rattle.wsn_shown_text.specs.Views.Shown.{Text, Ascii, Hex, Code, NoCode}

-- ---- columns

-- A text at the right, or at the left, of a column with at least this width.
abbrev pub right : ℕ → List ℕ → List ℕ
right width text = replicate (width - length text) 32 ++ text

abbrev pub left : ℕ → List ℕ → List ℕ
left width text = text ++ replicate (width - length text) 32

-- The endpoint that sent it, and an arrow, U+2192.
abbrev pub arrow : Role → List ℕ
arrow Client = codes "client " ++ (0xe2 ∷ 0x86 ∷ 0x92 ∷ []) ++ codes " "
arrow Server = codes "server " ++ (0xe2 ∷ 0x86 ∷ 0x92 ∷ []) ++ codes " "

-- The time. A stream without a capture has no such column.
abbrev pub time_column : EntryPosition → List ℕ
time_column InStream = []
time_column position = right 10 (time_text (time_at position))

-- What each entry begins with: the endpoint and the time.
abbrev pub people_front : Role → EntryPosition → List ℕ
people_front role position = arrow role ++ time_column position

-- The offset.
abbrev pub offset_column : ℕ → List ℕ
offset_column offset = codes " " ++ right 10 (decimal offset)

-- The payload's size, with a space before it however long the word is.
abbrev pub size_text : ℕ → List ℕ
size_text size = codes " " ++ right 5 (decimal size)

-- The offset, the word, and the payload's size.
abbrev pub columns : ℕ → List ℕ → ℕ → List ℕ
columns offset word size = offset_column offset ++ codes "  " ++ left 10 word ++ size_text size

-- ---- views

-- A Close's reason after a space; nothing without one.
abbrev pub people_reason : List ℕ → List ℕ
people_reason [] = []
people_reason (b ∷ reason) = codes " " ++ comment_text (b ∷ reason)

-- A text without quotation marks, with what is hidden escaped and a backslash doubled; bytes in hexadecimal.
abbrev pub people_shown : Shown → List ℕ
people_shown (Text text) = comment_text text
people_shown (Ascii text) = comment_text text
people_shown (Hex bytes) = hex_text bytes
people_shown (Code code reason) = decimal code ++ people_reason reason
people_shown NoCode = codes "-"

-- With ` ..` after it if there is more.
abbrev pub people_seen : PayloadView → List ℕ
people_seen view = people_shown view.shown ++ (if view.more then codes " .." else [])

-- A view of at most n bytes. If n is 0, a dash is shown of what isn't empty.
abbrev pub people_view : ℕ → PayloadView → List ℕ
people_view n view = if n == 0 && view.more then codes "-" else people_seen view

-- ---- frames

abbrev pub last_text : Bool → List ℕ
last_text true = codes "final"
last_text false = codes "more to come"

abbrev pub mask_text : Option (List ℕ) → List ℕ
mask_text None = codes ", unmasked"
mask_text (Some key) = codes ", masked with " ++ encode_lower key

abbrev pub length_text : Form → List ℕ
length_text forms.Shortest = []
length_text forms.Two = codes ", length in two bytes"
length_text forms.Eight = codes ", length in eight bytes"

-- Whether the message ends with a frame, how it is masked, and how its length is encoded if that isn't the shortest way.
abbrev pub people_head : HeadInfo → List ℕ
people_head head = last_text head.fin ++ mask_text head.key ++ length_text head.form

-- ---- what isn't complete, and refusals

-- The number of frames if there are several.
abbrev pub frames_text : ℕ → List ℕ
frames_text frames = if nat_lt 1 frames then codes "  in " ++ decimal frames ++ codes " frames" else []

-- How many bytes are missing; between frames none are.
abbrev pub missing_text : ℕ → List ℕ
missing_text count =
    if count == 0 then codes ", more to come"
    else if count == 1 then codes ", 1 byte missing"
    else codes ", " ++ decimal count ++ codes " bytes missing"

-- The same, if it is known: it isn't if a part of the next head came.
abbrev pub people_lacks : Option ℕ → List ℕ
people_lacks None = codes ", next head incomplete"
people_lacks (Some count) = missing_text count

-- A refusal as a sentence: the reason, the offset of the offending byte, and what a peer should answer.
abbrev pub sentence : Refusal → List ℕ
sentence refusal =
    word_of refusal.reason ++ codes " at " ++ decimal refusal.offset ++ codes ": a peer should close with "
    ++ decimal (code_of refusal.reason)

-- The last bytes of the evidence, which ends with the offending byte. None are shown if n is 0.
abbrev pub people_end : ℕ → EndView → List ℕ
people_end n end = if n == 0 then [] else codes "  " ++ end_text n end

-- Where a bad character is in the payload.
abbrev pub place_text : ℕ → List ℕ
place_text in_payload = codes " at " ++ decimal in_payload ++ codes " of the payload"

-- The same, and how the text before it begins: with a quotation mark, after `..` if that isn't all of the message before.
abbrev pub place_after : ℕ → Bool → List ℕ
place_after in_payload more = place_text in_payload ++ codes ", after " ++ (if more then codes ".." else []) ++ codes "\""

-- Where a bad character is, and if n isn't 0 its bytes and the text before it.
abbrev pub people_character : ℕ → List ℕ → BadCharacter → List ℕ
people_character n evidence character =
    if n == 0 then codes "bad character" ++ place_text character.in_payload
    else codes "bad character " ++ encode_lower character.bytes
    ++ place_after character.in_payload (leaves_out n evidence character)
    ++ comment_text (text_before n evidence character) ++ codes "\""

-- A line for it after that of its refusal, below the refusal's word.
abbrev pub people_bad : ℕ → List ℕ → Option BadCharacter → List ℕ
people_bad n evidence None = []
people_bad n evidence (Some character) =
    codes "\n                                " ++ people_character n evidence character

-- ---- entries

-- The word for what is shown, which is the first that an entry says.
abbrev pub people_word : List Member → List ℕ
people_word (Mark word ∷ members) = word
people_word (Word name word ∷ members) = word
people_word (Frame head ∷ members) = op_word head.op
people_word (Refused refusal ∷ members) = codes "refused"
people_word members = []

-- What an entry says after that word.
abbrev pub after_word : List Member → List Member
after_word (Mark word ∷ members) = members
after_word (Word name word ∷ members) = members
after_word members = members

-- The size in a member.
abbrev pub size_in : Member → List ℕ
size_in (Number name number) = if bytes_eq name (codes "bytes") then size_text number else []
size_in (Frame head) = size_text head.len
size_in member = []

-- A member after the columns.
abbrev pub remark : Member → List ℕ
remark (Mark word) = []
remark (Word name word) = codes "  " ++ word
remark (Number name number) = if bytes_eq name (codes "frames") then frames_text number else []
remark (Lacks lacks) = people_lacks lacks
remark (Frame head) = codes "  " ++ people_head head
remark (Refused refusal) = sentence refusal
remark (Seen n view) = codes "  " ++ people_view n view
remark (Ending n end) = people_end n end
remark (Bad n evidence character) = people_bad n evidence character

-- What an entry says, in columns and after them.
abbrev pub people_members : List Member → List ℕ
people_members members =
    codes "  " ++ left 10 (people_word members) ++ flat_map size_in members ++ flat_map remark (after_word members)

-- What follows the time.
abbrev pub people_rest : ℕ → Item → List ℕ
people_rest n item = offset_column (offset_of item) ++ people_members (members n item) ++ codes "\n"

-- The line of an item of an endpoint's stream, with views of at most n bytes. A bad character has a second.
abbrev pub people_line : ℕ → Role → EntryPosition → Item → List ℕ
people_line n role position item = people_front role position ++ people_rest n item

-- The line of an endpoint's end mark. The offset is the number of bytes that the endpoint sent.
abbrev pub people_end_line : Role → EntryPosition → ℕ → List ℕ
people_end_line role position sent = people_front role position ++ (offset_column sent ++ codes "  end\n")
