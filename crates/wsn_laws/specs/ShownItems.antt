-- Which shown items the laws are about, and which of them look alike.
use Rattle.std.specs.Prelude.{◌≡◌, ◌≢◌, ℕ, IfSome, Option, None, Some, List, length, ⊤}
use Rattle.wsn_wire.specs.Frame.{IsBytes}
use Rattle.wsn_rules.specs.BadCharacter.{BadCharacter}
use Rattle.wsn_rules.specs.Meaning.{MeantEvent, payload_in}
use Rattle.wsn_rules.specs.ShownStream.{Item}
use Rattle.wsn_rules.specs.ShownStream.Item.{Event, Head, Unfinished, UnfinishedHead, RefusedFrame, Unread, Tail}
use Rattle.wsn_rules.specs.ShownCapture.{IsSeconds}
use Rattle.wsn_print.specs.ShownParts.{EntryPosition}
use Rattle.wsn_print.specs.ShownParts.EntryPosition.{InLine, AtEnd, InStream}
use Rattle.wsn_shown_text.specs.Members.{event_word, event_size}
use Rattle.wsn_shown_text.specs.ShownText.{event_view, unfinished_view, end_view, hex_view}
use Rattle.wsn_shown_text.specs.CharacterText.{character_view}
use Rattle.wsn_laws.specs.Answers.{IsInU64, IsHeadInRange}

-- ---- in range

-- The number of a line is in range, and its time is in seconds.
abbrev pub IsPositionInRange : EntryPosition → Type 0
IsPositionInRange (InLine number time) = IsInU64 number × IfSome time IsSeconds
IsPositionInRange (AtEnd time) = IfSome time IsSeconds
IsPositionInRange InStream = ⊤

-- The bytes are bytes, and their number is in range.
abbrev pub AreBytesInRange : List ℕ → Type 0
AreBytesInRange bytes = IsInU64 (length bytes) × IsBytes bytes

-- Each number of the bad character is in range, and its bytes are bytes.
abbrev pub IsCharacterInRange : BadCharacter → Type 0
IsCharacterInRange character = IsInU64 character.offset × IsInU64 character.in_payload × IsBytes character.bytes

-- Each number of the item is in range, and so are its bytes and its bad character.
abbrev pub IsItemInRange : Item → Type 0
IsItemInRange (Event offset event frames) = IsInU64 offset × IsInU64 frames × AreBytesInRange (payload_in event)
IsItemInRange (Head info) = IsHeadInRange info
IsItemInRange (Unfinished offset event frames lacks) =
    IsInU64 offset × IsInU64 frames × AreBytesInRange (payload_in event) × IfSome lacks IsInU64
IsItemInRange (UnfinishedHead offset) = IsInU64 offset
IsItemInRange (RefusedFrame offset refusal evidence character) =
    IsInU64 offset × IsInU64 refusal.offset × AreBytesInRange evidence × IfSome character IsCharacterInRange
IsItemInRange (Unread offset bytes) = IsInU64 offset × AreBytesInRange bytes
IsItemInRange (Tail offset bytes) = IsInU64 offset × AreBytesInRange bytes

-- ---- alike

-- Both events have the same word, which says what they are, and the same number of bytes.
abbrev pub AreAlike : MeantEvent → MeantEvent → Type 0
AreAlike event other = (event_word event ≡ event_word other) × (event_size event ≡ event_size other)

-- With views of at most n bytes, neither refusal has a bad character, or both have one in the same place and with the
-- same view; if n isn't 0, both have the same bytes.
abbrev pub HaveLikeCharacters : ℕ → List ℕ → Option BadCharacter → List ℕ → Option BadCharacter → Type 0
HaveLikeCharacters n evidence None bytes None = ⊤
HaveLikeCharacters n evidence (Some character) bytes (Some other) =
    (character.offset ≡ other.offset) × (character.in_payload ≡ other.in_payload)
    × (n ≢ 0 → character.bytes ≡ other.bytes)
    × (character_view n evidence character ≡ character_view n bytes other)
HaveLikeCharacters n evidence character bytes other = ⊥

-- With views of at most n bytes, both items are the same up to the bytes that no view shows.
abbrev pub LookAlike : ℕ → Item → Item → Type 0
LookAlike n (Event offset event frames) (Event another other more) =
    (offset ≡ another) × AreAlike event other × (frames ≡ more) × (event_view n event ≡ event_view n other)
LookAlike n (Head info) (Head other) = info ≡ other
LookAlike n (Unfinished offset event frames lacks) (Unfinished another other more lacking) =
    (offset ≡ another) × AreAlike event other × (frames ≡ more) × (lacks ≡ lacking)
    × (unfinished_view n event ≡ unfinished_view n other)
LookAlike n (UnfinishedHead offset) (UnfinishedHead another) = offset ≡ another
LookAlike n (RefusedFrame offset refusal evidence character) (RefusedFrame another other bytes second) =
    (offset ≡ another) × (refusal ≡ other) × (end_view n evidence ≡ end_view n bytes)
    × HaveLikeCharacters n evidence character bytes second
LookAlike n (Unread offset bytes) (Unread another other) =
    (offset ≡ another) × (length bytes ≡ length other) × (hex_view n bytes ≡ hex_view n other)
LookAlike n (Tail offset bytes) (Tail another other) =
    (offset ≡ another) × (length bytes ≡ length other) × (hex_view n bytes ≡ hex_view n other)
LookAlike n item other = ⊥
