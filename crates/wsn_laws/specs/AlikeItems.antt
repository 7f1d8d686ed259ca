-- What is shown of two streams that differ only in what was said: the same items at the same offsets, of the same kinds
-- and sizes, of as many frames. RFC 6455 sections 5.2 to 5.6 and 7.1.
use Rattle.std.specs.Prelude.{◌≡◌, Option, None, Some, List, [], ◌∷◌, length}
use Rattle.wsn_rules.specs.BadCharacter.{BadCharacter}
use Rattle.wsn_rules.specs.Meaning.{MeantEvent}
use Rattle.wsn_rules.specs.Meaning.MeantEvent.{Message, Control}
use Rattle.wsn_rules.specs.ShownStream.{Item, Shown}
use Rattle.wsn_rules.specs.ShownStream.Item.{Event, Head, Unfinished, UnfinishedHead, RefusedFrame, Unread, Tail}
use Rattle.std.specs.List.{AllZip}

-- Messages of one kind, or controls with one opcode, of as many bytes.
abbrev pub AreAlikeEvents : MeantEvent → MeantEvent → Type 0
AreAlikeEvents (Message kind payload) (Message other_kind other) = (kind ≡ other_kind) × (length payload ≡ length other)
AreAlikeEvents (Control op body) (Control other_op other) = (op ≡ other_op) × (length body ≡ length other)
AreAlikeEvents event other = ⊥

-- Neither has a bad character; or both have one, at the same offset and place in the payload, of as many bytes, with as
-- many of earlier frames.
abbrev pub AreAlikeBadCharacters : Option BadCharacter → Option BadCharacter → Type 0
AreAlikeBadCharacters None None = Unit {0}
AreAlikeBadCharacters (Some c) (Some d) =
    (c.offset ≡ d.offset) × (c.in_payload ≡ d.in_payload) × (length c.bytes ≡ length d.bytes)
    × (length c.earlier ≡ length d.earlier)
AreAlikeBadCharacters c d = ⊥

-- Items at one offset: events that are alike, of as many frames, and if they are unfinished, with as many bytes missing;
-- the same heads; the same refusals, with as many bytes of evidence and bad characters that are alike; as many bytes that
-- are left over.
abbrev pub AreAlikeItems : Item → Item → Type 0
AreAlikeItems (Event offset event frames) (Event other_offset other count) =
    (offset ≡ other_offset) × AreAlikeEvents event other × (frames ≡ count)
AreAlikeItems (Head info) (Head other) = info ≡ other
AreAlikeItems (Unfinished offset event frames lacks) (Unfinished other_offset other count other_lacks) =
    (offset ≡ other_offset) × AreAlikeEvents event other × (frames ≡ count) × (lacks ≡ other_lacks)
AreAlikeItems (UnfinishedHead offset) (UnfinishedHead other_offset) = offset ≡ other_offset
AreAlikeItems (RefusedFrame offset refusal evidence bad) (RefusedFrame other_offset other other_evidence other_bad) =
    (offset ≡ other_offset) × (refusal ≡ other) × (length evidence ≡ length other_evidence) × AreAlikeBadCharacters bad other_bad
AreAlikeItems (Unread offset bytes) (Unread other_offset others) = (offset ≡ other_offset) × (length bytes ≡ length others)
AreAlikeItems (Tail offset bytes) (Tail other_offset others) = (offset ≡ other_offset) × (length bytes ≡ length others)
AreAlikeItems item other = ⊥

-- In pairs, items that are alike.
abbrev pub AreAlikeInTurn : List Item → List Item → Type 0
AreAlikeInTurn = AllZip AreAlikeItems

-- In pairs, items that are alike and are shown with the same number of bytes.
abbrev pub AreShownAlike : List Shown → List Shown → Type 0
AreShownAlike [] [] = Unit {0}
AreShownAlike (s ∷ shown) (t ∷ others) =
    (s.after ≡ t.after) × AreAlikeItems s.item t.item × AreShownAlike shown others
AreShownAlike shown others = ⊥
