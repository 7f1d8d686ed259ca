-- Nothing of a line for people is hidden but the LF at its end.
use Rattle.std.proofs.Common.{◌≡◌, ℕ, zero, suc, ◌-◌, ◌/◌, ◌==◌, ◌&&◌, nat_lt, Bool, true, false, if◌then◌else◌, Option, None, Some, List, [], ◌∷◌, ◌++◌, length, drop, replicate, codes, decimal, refl, inl, inr, append_assoc, append-nil}
use Rattle.std.specs.Prelude.{flat_map, ⊤}
use Rattle.std.specs.Option.{IfSome}
use Rattle.std.specs.Char.{encode_utf8}
use Rattle.std.specs.Str.{IsUtf8}
use Rattle.hex.specs.Hex.{encode_lower}
use Rattle.wsn_wire.specs.declared.endpoint.Role.{Role}
use Rattle.wsn_wire.specs.declared.endpoint.Role.TheVariants.{Client, Server}
use Rattle.wsn_wire.specs.declared.length_encoding.Form.{Form}
use Rattle.wsn_wire.specs.declared.length_encoding.Form.TheVariants as forms
use Rattle.wsn_wire.specs.Frame.{IsBytes, key_bytes}
use Rattle.wsn_wire.specs.Refusal.{word_of, code_of}
use Rattle.wsn_rules.specs.declared.head_info.HeadInfo.{HeadInfo}
use Rattle.wsn_rules.specs.declared.verdict.Refusal.{Refusal}
use Rattle.wsn_rules.specs.BadCharacter.{BadCharacter}
use Rattle.wsn_rules.specs.ShownStream.{Item}
use Rattle.wsn_rules.specs.ShownStream.Item.{Event, Head, Unfinished, UnfinishedHead, RefusedFrame, Unread, Tail}
use Rattle.wsn_rules.specs.ShownOffsets.{offset_of}
use Rattle.wsn_print.specs.HeadText.{op_word}
use Rattle.wsn_print.specs.EscapedText.{comment_text}
use Rattle.wsn_print.specs.ShownParts.{EntryPosition, time_at}
use Rattle.wsn_print.specs.ShownParts.EntryPosition.{InLine, AtEnd, InStream}
use Rattle.wsn_shown_text.specs.Members.{Member, event_word, event_size, bytes_members, members}
use Rattle.wsn_shown_text.specs.PeopleText.{right, left, arrow, time_column, people_front, offset_column, size_text, people_reason, people_shown, people_seen, people_view, last_text, mask_text, length_text, people_head, frames_text, missing_text, people_lacks, sentence, people_end, place_text, place_after, people_character, people_bad, people_word, after_word, size_in, remark, people_members, people_rest, people_line, people_end_line}
use Rattle.wsn_shown_text.specs.ShownText.{end_text, time_text}
use Rattle.wsn_shown_text.specs.CharacterText.{from_character, bytes_before, text_before, leaves_out}
use Rattle.wsn_shown_text.specs.Views.{Shown, PayloadView, view_of_bytes, view_of_end, view_of_event, view_of_unfinished}
use Rattle.wsn_shown_text.specs.Views.Shown.{Text, Ascii, Hex, Code, NoCode}
use Rattle.wsn_shown_text.specs.QuotedTexts.{IsAllVisible, IsVisibleLine, AreVisibleLines, bytes_in, bad_bytes, ShowsTextReason}
use Rattle.wsn_shown_text.proofs.HeldViews.{as_view}
use Rattle.wsn_shown_text.proofs.TextFronts.{whole_is_utf8}
use Rattle.wsn_shown_text.proofs.VisibleTexts.{readable_visible, plain_visible}
use Rattle.wsn_laws.proofs.VisibleLines.{Seen, ◌⊕◌, word, seen_if, number, opcode_word, reason_word, seen_word, space, seconds, hex, hex_or_dash, CanBeSeen, event_seen, unfinished_seen, end_seen, take_bytes}

-- ---- columns

blank : (n : ℕ) → Seen (replicate n 32)
blank zero = word [] refl
blank (suc n) = space ⊕ blank n

at_right : (width : ℕ) (text : List ℕ) → Seen text → Seen (right width text)
at_right width text seen = blank (width - length text) ⊕ seen

at_left : (width : ℕ) (text : List ℕ) → Seen text → Seen (left width text)
at_left width text seen = seen ⊕ blank (width - length text)

-- U+2192 is UTF-8, and it isn't hidden.
pointer : Seen (0xe2 ∷ 0x86 ∷ 0x92 ∷ [])
unfolding encode_utf8
pointer = record { is = plain_visible 0x2192 refl refl }

side : (role : Role) → Seen (arrow role)
side Client = word (codes "client ") refl ⊕ pointer ⊕ space
side Server = word (codes "server ") refl ⊕ pointer ⊕ space

time_seen : (position : EntryPosition) → IfSome (time_at position) IsAllVisible → Seen (time_column position)
time_seen InStream visible = word [] refl
time_seen (InLine number time) visible = at_right 10 (time_text time) (seconds time visible)
time_seen (AtEnd time) visible = at_right 10 (time_text time) (seconds time visible)

front : (role : Role) (position : EntryPosition) → IfSome (time_at position) IsAllVisible → Seen (people_front role position)
front role position visible = side role ⊕ time_seen position visible

offset : (n : ℕ) → Seen (offset_column n)
offset n = space ⊕ at_right 10 (decimal n) (number n)

size : (n : ℕ) → Seen (size_text n)
size n = space ⊕ at_right 5 (decimal n) (number n)

gap : Seen (codes "  ")
gap = word (codes "  ") refl

-- ---- views

readable : (text : List ℕ) → IsUtf8 text → Seen (comment_text text)
readable text utf8 = record { is = readable_visible text utf8 }

reason_seen : (reason : List ℕ) → IsUtf8 reason → Seen (people_reason reason)
reason_seen [] utf8 = word [] refl
reason_seen (b ∷ reason) utf8 = space ⊕ readable (b ∷ reason) utf8

shown_seen : (shown : Shown) → CanBeSeen shown → Seen (people_shown shown)
shown_seen (Text text) can = readable text can
shown_seen (Ascii text) can = absurd can
shown_seen (Hex bytes) can = hex_or_dash bytes can
shown_seen (Code code reason) can = number code ⊕ reason_seen reason can
shown_seen NoCode can = word (codes "-") refl

view_seen : (n : ℕ) (view : PayloadView) → CanBeSeen view.shown → Seen (people_view n view)
view_seen n view can =
    seen_if (n == 0 && view.more) (codes "-") (people_seen view) (word (codes "-") refl)
    (shown_seen view.shown can ⊕ seen_if view.more (codes " ..") [] (word (codes " ..") refl) (word [] refl))

-- ---- frames, what isn't complete, and refusals

last_seen : (fin : Bool) → Seen (last_text fin)
last_seen true = word (codes "final") refl
last_seen false = word (codes "more to come") refl

mask_seen : (key : Option (List ℕ)) → IsBytes (key_bytes key) → Seen (mask_text key)
mask_seen None fits = word (codes ", unmasked") refl
mask_seen (Some key) fits = word (codes ", masked with ") refl ⊕ hex key fits

length_seen : (form : Form) → Seen (length_text form)
length_seen forms.Shortest = word [] refl
length_seen forms.Two = word (codes ", length in two bytes") refl
length_seen forms.Eight = word (codes ", length in eight bytes") refl

head : (info : HeadInfo) → IsBytes (key_bytes info.key) → Seen (people_head info)
head info fits = last_seen info.fin ⊕ mask_seen info.key fits ⊕ length_seen info.form

frames_seen : (n : ℕ) → Seen (frames_text n)
frames_seen n =
    seen_if (nat_lt 1 n) (codes "  in " ++ decimal n ++ codes " frames") [] (word (codes "  in ") refl ⊕ number n ⊕ word (codes " frames") refl) (word [] refl)

missing : (n : ℕ) → Seen (missing_text n)
missing n =
    seen_if (n == 0) (codes ", more to come") (if n == 1 then codes ", 1 byte missing" else codes ", " ++ decimal n ++ codes " bytes missing") (word (codes ", more to come") refl)
    (seen_if (n == 1) (codes ", 1 byte missing") (codes ", " ++ decimal n ++ codes " bytes missing") (word (codes ", 1 byte missing") refl)
    (word (codes ", ") refl ⊕ number n ⊕ word (codes " bytes missing") refl))

lacks_seen : (lacks : Option ℕ) → Seen (people_lacks lacks)
lacks_seen None = word (codes ", next head incomplete") refl
lacks_seen (Some n) = missing n

verdict : (refusal : Refusal) → Seen (sentence refusal)
verdict refusal =
    word (word_of refusal.reason) (reason_word refusal.reason) ⊕ word (codes " at ") refl ⊕ number refusal.offset
    ⊕ word (codes ": a peer should close with ") refl ⊕ number (code_of refusal.reason)

after : (n : ℕ) (evidence : List ℕ) → IsBytes evidence → Seen (people_end n (view_of_end n evidence))
after n evidence fits =
    seen_if (n == 0) [] (codes "  " ++ end_text n (view_of_end n evidence)) (word [] refl) (gap ⊕ end_seen n evidence fits)

place : (n : ℕ) → Seen (place_text n)
place n = word (codes " at ") refl ⊕ number n ⊕ word (codes " of the payload") refl

character_seen : (n : ℕ) (evidence : List ℕ) (character : BadCharacter) → IsBytes character.bytes → Seen (people_character n evidence character)
character_seen n evidence character fits =
    seen_if (n == 0) (codes "bad character" ++ place_text character.in_payload)
    (codes "bad character " ++ encode_lower character.bytes ++ place_after character.in_payload (leaves_out n evidence character) ++ comment_text (text_before n evidence character) ++ codes "\"")
    (word (codes "bad character") refl ⊕ place character.in_payload)
    (word (codes "bad character ") refl ⊕ hex character.bytes fits
    ⊕ (place character.in_payload ⊕ word (codes ", after ") refl ⊕ seen_if (leaves_out n evidence character) (codes "..") [] (word (codes "..") refl) (word [] refl) ⊕ word (codes "\"") refl)
    ⊕ readable (text_before n evidence character) (whole_is_utf8 (from_character (bytes_before n evidence character))) ⊕ word (codes "\"") refl)

-- ---- entries

nothing : Seen []
nothing = word [] refl

abbrev EachSeen : (Member → List ℕ) → List Member → Type 0
EachSeen f [] = ⊤
EachSeen f (m ∷ members) = Seen (f m) × EachSeen f members

each : (f : Member → List ℕ) (members : List Member) → EachSeen f members → Seen (flat_map f members)
each f [] seen = nothing
each f (m ∷ members) seen = seen.0 ⊕ each f members seen.1

joined : (members : List Member) → Seen (people_word members) → EachSeen size_in members → EachSeen remark (after_word members) → Seen (people_members members)
joined members first sizes remarks = gap ⊕ at_left 10 (people_word members) first ⊕ each size_in members sizes ⊕ each remark (after_word members) remarks

bytes_said : (n : ℕ) (first bytes : List ℕ) → Seen first → IsBytes bytes → Seen (people_members (bytes_members n first bytes))
bytes_said n first bytes seen fits =
    joined (bytes_members n first bytes) seen (nothing, (size (length bytes), (nothing, tt))) (nothing, (gap ⊕ view_seen n (view_of_bytes n bytes) (take_bytes (n / 2) bytes fits), tt))

-- An entry of one line.
one_line : (role : Role) (position : EntryPosition) (at : ℕ) (said : List ℕ) → IfSome (time_at position) IsAllVisible → Seen said
    → AreVisibleLines (people_front role position ++ (offset_column at ++ said ++ codes "\n"))
one_line role position at said visible seen = inl (
  people_front role position ++ (offset_column at ++ said),
  last_apart (people_front role position) (offset_column at ++ said) (codes "\n"),
  (front role position visible ⊕ (offset at ⊕ seen)).is,
)
  where
    last_apart : (first second end : List ℕ) → first ++ (second ++ end) ≡ (first ++ second) ++ end
    last_apart first second end = simp append_assoc

two_lines : (front offset gap first verdict last feed blanks character end : List ℕ)
    → front ++ (offset ++ (gap ++ first ++ ([] ++ ([] ++ ([] ++ []))) ++ (verdict ++ (last ++ (((feed ++ blanks) ++ character) ++ [])))) ++ end)
    ≡ (front ++ offset ++ gap ++ first ++ verdict ++ last ++ feed) ++ (blanks ++ character ++ end)
two_lines front offset gap first verdict last feed blanks character end = simp (append_assoc, append-nil)

pub people_line_visible : (n : ℕ) (role : Role) (position : EntryPosition) (item : Item) → IfSome (time_at position) IsAllVisible → IsBytes (bytes_in item) → IsBytes (bad_bytes item) → ShowsTextReason item
    → AreVisibleLines (people_line n role position item)
people_line_visible n role position (Event at event frames) visible fits bad reason =
    one_line role position at (people_members (members n (Event at event frames))) visible
    (joined (members n (Event at event frames)) (seen_word event) (nothing, (size (event_size event), (nothing, (nothing, tt))))
    (nothing, (frames_seen frames, (gap ⊕ view_seen n (view_of_event n event) (event_seen n event fits reason), tt))))
people_line_visible n role position (Head info) visible fits bad reason =
    one_line role position info.offset (people_members (members n (Head info))) visible
    (joined (members n (Head info)) (word (op_word info.op) (opcode_word info.op)) (size info.len, tt) (gap ⊕ head info fits, tt))
people_line_visible n role position (Unfinished at event frames lacks) visible fits bad reason =
    one_line role position at (people_members (members n (Unfinished at event frames lacks))) visible
    (joined (members n (Unfinished at event frames lacks)) (word (codes "unfinished") refl) (nothing, (nothing, (size (event_size event), (nothing, (nothing, (nothing, tt))))))
    (gap ⊕ seen_word event, (nothing, (frames_seen frames, (lacks_seen lacks, (gap ⊕ view_seen n (view_of_unfinished n event) (unfinished_seen n event fits), tt))))))
people_line_visible n role position (UnfinishedHead at) visible fits bad reason =
    one_line role position at (people_members (members n (UnfinishedHead at))) visible
    (joined (members n (UnfinishedHead at)) (word (codes "unfinished") refl) (nothing, (nothing, (size 0, (nothing, (nothing, (nothing, tt))))))
    (word (codes "  head") refl, (nothing, (frames_seen 0, (lacks_seen None, (gap ⊕ view_seen n (as_view (Hex []) false) tt, tt))))))
people_line_visible n role position (RefusedFrame at refusal evidence None) visible fits bad reason =
    one_line role position at (people_members (members n (RefusedFrame at refusal evidence None))) visible
    (joined (members n (RefusedFrame at refusal evidence None)) (word (codes "refused") refl) (nothing, (nothing, (nothing, tt))) (verdict refusal, (after n evidence fits, (nothing, tt))))
people_line_visible n role position (RefusedFrame at refusal evidence (Some character)) visible fits bad reason =
    let said : List ℕ = people_front role position ++ offset_column at ++ codes "  " ++ left 10 (codes "refused") ++ sentence refusal ++ people_end n (view_of_end n evidence) in
    let below : List ℕ = codes "                                " ++ people_character n evidence character in
    let first = front role position visible ⊕ offset at ⊕ gap ⊕ at_left 10 (codes "refused") (word (codes "refused") refl) ⊕ verdict refusal ⊕ after n evidence fits in
    let second = word (codes "                                ") refl ⊕ character_seen n evidence character bad in
    inr (
      said ++ codes "\n",
      below ++ codes "\n",
      two_lines (people_front role position) (offset_column at) (codes "  ") (left 10 (codes "refused")) (sentence refusal) (people_end n (view_of_end n evidence)) (codes "\n") (codes "                                ") (people_character n evidence character) (codes "\n"),
      (said, refl, first.is),
      (below, refl, second.is),
    )
people_line_visible n role position (Unread at bytes) visible fits bad reason =
    one_line role position at (people_members (members n (Unread at bytes))) visible (bytes_said n (codes "unread") bytes (word (codes "unread") refl) fits)
people_line_visible n role position (Tail at bytes) visible fits bad reason =
    one_line role position at (people_members (members n (Tail at bytes))) visible (bytes_said n (codes "tail") bytes (word (codes "tail") refl) fits)

pub people_end_visible : (role : Role) (position : EntryPosition) (sent : ℕ) → IfSome (time_at position) IsAllVisible → IsVisibleLine (people_end_line role position sent)
people_end_visible role position sent visible = (
  people_front role position ++ (offset_column sent ++ codes "  end"),
  last_apart (people_front role position) (offset_column sent) (codes "  end") (codes "\n"),
  (front role position visible ⊕ (offset sent ⊕ word (codes "  end") refl)).is,
)
  where
    last_apart : (first second third end : List ℕ) → first ++ (second ++ (third ++ end)) ≡ (first ++ (second ++ third)) ++ end
    last_apart first second third end = simp append_assoc
