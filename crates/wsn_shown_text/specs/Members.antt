-- What an entry of `show` says, whatever the format: chosen here, and written in `ShownText` and `ShownObjects`.
use Rattle.std.specs.Prelude.{ℕ, false, Option, None, List, [], ◌∷◌, ◌++◌, length, codes}
use Rattle.wsn_wire.specs.declared.opcode.Kind.{Kind}
use Rattle.wsn_wire.specs.declared.opcode.Kind.TheVariants as kinds
use Rattle.wsn_rules.specs.BadCharacter.{BadCharacter}
use Rattle.wsn_rules.specs.declared.head_info.HeadInfo.{HeadInfo}
use Rattle.wsn_rules.specs.declared.verdict.Refusal.{Refusal}
use Rattle.wsn_rules.specs.Meaning.{MeantEvent, Message, Control}
use Rattle.wsn_rules.specs.ShownStream.{Item}
use Rattle.wsn_rules.specs.ShownStream.Item.{Event, Head, Unfinished, UnfinishedHead, RefusedFrame, Unread, Tail}
use Rattle.wsn_print.specs.HeadText.{op_word}
use Rattle.wsn_shown_text.specs.Views.{PayloadView, EndView, view_of_bytes, view_of_end, view_of_event, view_of_unfinished}
use Rattle.wsn_shown_text.specs.Views.Shown.{Hex}

-- A part of what an entry says after its offset. Where a part has a name, only an object has it.
pub data Member : Type 0 where
  -- The entry's type, which an object has in front.
  Mark : List ℕ → Member
  -- A word.
  Word : List ℕ → List ℕ → Member
  -- A number.
  Number : List ℕ → ℕ → Member
  -- How many bytes are missing, if that is known.
  Lacks : Option ℕ → Member
  -- The head of a frame.
  Frame : HeadInfo → Member
  -- A refusal.
  Refused : Refusal → Member
  -- What a view of at most n bytes shows of a payload.
  Seen : ℕ → PayloadView → Member
  -- What it shows of the evidence for a refusal.
  Ending : ℕ → EndView → Member
  -- What it shows of the text up to a bad character, if there is one. In lines it has a line of its own.
  Bad : ℕ → List ℕ → Option BadCharacter → Member

-- ---- events

-- The word for a kind of message.
abbrev pub kind_word : Kind → List ℕ
kind_word kinds.Text = codes "text"
kind_word kinds.Binary = codes "binary"

-- The word for what an event is.
abbrev pub event_word : MeantEvent → List ℕ
event_word (Message kind payload) = kind_word kind
event_word (Control op body) = op_word op

-- The number of an event's payload bytes.
abbrev pub event_size : MeantEvent → ℕ
event_size (Message kind payload) = length payload
event_size (Control op body) = length body

-- The word, the payload bytes and the frames of an event.
abbrev pub event_members : List ℕ → ℕ → ℕ → List Member
event_members word bytes frames =
    Word (codes "event") word ∷ Number (codes "bytes") bytes ∷ Number (codes "frames") frames ∷ []

-- Those of an event that isn't complete, and how many bytes its last frame lacks.
abbrev pub unfinished_members : List ℕ → ℕ → ℕ → Option ℕ → List Member
unfinished_members word bytes frames lacks =
    (Mark (codes "unfinished") ∷ event_members word bytes frames) ++ (Lacks lacks ∷ [])

-- ---- items

-- The type of an item's object.
abbrev pub item_type : Item → List ℕ
item_type (Event offset event frames) = codes "event"
item_type (Head info) = codes "frame"
item_type (Unfinished offset event frames lacks) = codes "unfinished"
item_type (UnfinishedHead offset) = codes "unfinished"
item_type (RefusedFrame offset refusal evidence character) = codes "refused"
item_type (Unread offset bytes) = codes "unread"
item_type (Tail offset bytes) = codes "tail"

-- Bytes that belong to no frame: their number, and the first of them.
abbrev pub bytes_members : ℕ → List ℕ → List ℕ → List Member
bytes_members n word bytes =
    Mark word ∷ Number (codes "bytes") (length bytes) ∷ Seen n (view_of_bytes n bytes) ∷ []

-- What is said of an item, with views of at most n bytes.
abbrev pub members : ℕ → Item → List Member
members n (Event offset event frames) =
    event_members (event_word event) (event_size event) frames ++ (Seen n (view_of_event n event) ∷ [])
members n (Head info) = Frame info ∷ []
members n (Unfinished offset event frames lacks) =
    unfinished_members (event_word event) (event_size event) frames lacks ++ (Seen n (view_of_unfinished n event) ∷ [])
members n (UnfinishedHead offset) =
    unfinished_members (codes "head") 0 0 None ++ (Seen n (record { shown = Hex []; more = false }) ∷ [])
members n (RefusedFrame offset refusal evidence character) =
    Refused refusal ∷ Ending n (view_of_end n evidence) ∷ Bad n evidence character ∷ []
members n (Unread offset bytes) = bytes_members n (codes "unread") bytes
members n (Tail offset bytes) = bytes_members n (codes "tail") bytes

-- What is said of an endpoint's end mark.
abbrev pub end_members : List Member
end_members = Mark (codes "end") ∷ []
