-- What is shown of a stream: its events or its frames' heads, a refusal, and what its frames leave over. Every byte of
-- the stream belongs to one of these. RFC 6455 sections 5.2 to 5.6 and 7.1.
use Rattle.std.specs.Prelude.{◌≡◌, ◌≢◌, ℕ, ◌+◌, ◌-◌, ◌⊎◌, Bool, not, ◌&&◌, nat_lt, Option, None, Some, List, [], ◌∷◌, ◌++◌, length, take, drop, map, flat_map, if◌then◌else◌}
use Rattle.wsn_wire.specs.declared.endpoint.Role.{Role}
use Rattle.wsn_wire.specs.declared.refusal.Reason.{Reason}
use Rattle.wsn_wire.specs.Frame.{Frame, stream, is_control, head_bytes, wire_payload}
use Rattle.wsn_rules.specs.declared.detail.Detail.{Detail, TheVariants.{Events, Frames}}
use Rattle.wsn_rules.specs.declared.head_info.HeadInfo.{HeadInfo}
use Rattle.wsn_rules.specs.declared.verdict.Refusal.{Refusal}
use Rattle.wsn_rules.specs.declared.verdict.Verdict.{Verdict, TheVariants.{Accepted, Cut, Refused}}
use Rattle.wsn_rules.specs.Limits.{Limits}
use Rattle.std.specs.List.{fold}
use Rattle.wsn_rules.specs.Group.{is_data, unfinished, kind_of, payload_of}
use Rattle.wsn_rules.specs.Meaning.{MeantEvent, Message, Control, event_at}
use Rattle.wsn_rules.specs.Summary.{ends_message, is_close}
use Rattle.wsn_rules.specs.Heads.{BeginsWithHead, AreHeads}
use Rattle.wsn_rules.specs.Verdict.{IsVerdict}
use Rattle.wsn_rules.specs.BadCharacter.{BadCharacter, character_of}

-- ---- the items

-- What is shown of a stream. Each item has the offset of its first byte.
pub data Item : Type 0 where
  -- A complete event, and the number of its frames.
  Event : ℕ → MeantEvent → ℕ → Item
  -- A frame, by its head.
  Head : HeadInfo → Item
  -- What has begun and isn't complete: its payload so far, as an event; the number of its frames that have begun; and
  -- how many bytes the last of them lacks, none if only a part of the next head has come.
  Unfinished : ℕ → MeantEvent → ℕ → Option ℕ → Item
  -- A part of a head, while no message is open.
  UnfinishedHead : ℕ → Item
  -- The refusal of the frame that begins at the offset, the bytes that are evidence for it, and the bad character of a
  -- text that is refused for one.
  RefusedFrame : ℕ → Refusal → List ℕ → Option BadCharacter → Item
  -- Bytes after a refusal.
  Unread : ℕ → List ℕ → Item
  -- Bytes after a Close.
  Tail : ℕ → List ℕ → Item

-- An item, and the number of bytes of the stream with which it is shown.
pub record Shown : Type 0 where
  pub after : ℕ
  pub item : Item

-- Items that are shown with this number of bytes.
abbrev pub shown_after : ℕ → List Item → List Shown
shown_after n = map (λ item. record { after = n; item = item })

-- ---- the open message

-- The frames from the first one of the open message on, after one more frame: the frame ends the message, or joins
-- them; if none is open, a fragment begins one.
abbrev pub since_with : List Frame → Frame → List Frame
since_with [] f = if is_data f && not f.fin then f ∷ [] else []
since_with (g ∷ since) f = if ends_message f then [] else g ∷ (since ++ f ∷ [])

-- The frames from the first one of the open message on, with the controls between them; none if no message is open.
abbrev pub since_open : List Frame → List Frame
since_open = fold since_with []

-- The offset of the open message's first frame; if no message is open, that of the next frame.
abbrev pub open_offset : List Frame → ℕ
open_offset fs = length (stream fs) - length (stream (since_open fs))

-- The open message of these frames, with more payload and more frames.
abbrev pub open_item : List Frame → List Frame → Option ℕ → Item
open_item fs group lacks =
    Unfinished (open_offset fs) (Message (kind_of group) (payload_of group)) (length group) lacks

-- The open message, or nothing if none is open. All its frames that have begun are complete.
abbrev pub open_items : List Frame → Option ℕ → List Item
open_items fs lacks = if nat_lt 0 (length (unfinished fs)) then open_item fs (unfinished fs) lacks ∷ [] else []

-- ---- events

-- The offset of the event that the frame f ends after the frames before it: a control's own, or a message's.
abbrev pub event_offset : List Frame → Frame → ℕ
event_offset before f = if is_control f.op then length (stream before) else open_offset before

-- The number of its frames.
abbrev pub event_frames : List Frame → Frame → ℕ
event_frames before f = if is_control f.op then 1 else length (unfinished before ++ f ∷ [])

-- What is shown of a final frame after the frames before it: its event. A message that a Close interrupts comes first.
abbrev pub items_of_final : List Frame → Frame → List Item
items_of_final before f =
    (if is_close f.op then open_items before (Some 0) else [])
    ++ Event (event_offset before f) (event_at before f) (event_frames before f) ∷ []

-- What is shown of a frame, with its last byte; nothing of a frame that isn't final.
abbrev pub shown_at : List Frame → Frame → List Shown
shown_at before f =
    if f.fin then shown_after (length (stream (before ++ f ∷ []))) (items_of_final before f) else []

-- What is shown of the frames fs, in order, after the frames `before`.
abbrev pub shown_of : List Frame → List Frame → List Shown
shown_of before [] = []
shown_of before (f ∷ fs) = shown_at before f ++ shown_of (before ++ f ∷ []) fs

-- ---- frames, in one of two details

-- What is shown of a frame by its head, with the head's last byte.
abbrev pub shown_head : HeadInfo → Shown
shown_head info = record {
  after = info.offset + length (head_bytes info.fin info.op info.key info.form info.len);
  item = Head info;
}

-- What is shown of the frames fs, with which the bytes begin. With the detail Events, an entry for each event. With the
-- detail Frames, a line for each head that is reported of the bytes, also of a frame whose payload isn't complete.
abbrev pub AreShownFrames : Detail → Role → Limits → List ℕ → List Frame → List Shown → Type 0
AreShownFrames Events role limits bytes fs shown = shown ≡ shown_of [] fs
AreShownFrames Frames role limits bytes fs shown =
    (heads : List HeadInfo) × AreHeads role limits bytes fs heads × (shown ≡ map shown_head heads)

-- The open message that a refusal interrupts. With the detail Frames nothing is shown of it, since its frames were.
abbrev pub interrupted : Detail → List Frame → List Item
interrupted Events fs = open_items fs (Some 0)
interrupted Frames fs = []

-- ---- a refusal

-- The evidence that is shown of a frame whose bytes up to the offending one are `seen`: its payload, unmasked, if the
-- offending byte is in the payload, otherwise the head as it came. A bad character is in the payload.
abbrev pub IsShownEvidence : Role → Limits → List Frame → Reason → List ℕ → List ℕ → Option BadCharacter → Type 0
IsShownEvidence role limits fs reason seen shown character =
    ((info : HeadInfo) × (begun : BeginsWithHead role limits fs seen info) × (begun.following ≢ [])
    × (shown ≡ wire_payload info.key begun.following) × (character ≡ character_of reason fs info shown))
    ⊎ (((info : HeadInfo) (begun : BeginsWithHead role limits fs seen info) → begun.following ≡ []) × (shown ≡ seen)
    × (character ≡ None))

-- What is shown of a refusal after the frames fs, with the offending byte. A message that it interrupts comes first.
pub record IsShownRefusal (detail : Detail) (role : Role) (limits : Limits) (bytes : List ℕ) (fs : List Frame)
    (refusal : Refusal) (shown : List Shown) : Type 0 where
  pub evidence : List ℕ
  pub character : Option BadCharacter
  pub is_evidence :
      IsShownEvidence role limits fs refusal.reason (drop (length (stream fs)) (take (refusal.offset + 1) bytes)) evidence
      character
  pub is :
      shown ≡ shown_after (refusal.offset + 1)
      (interrupted detail fs ++ RefusedFrame (length (stream fs)) refusal evidence character ∷ [])

-- What is shown of a verdict, beside its frames.
abbrev pub IsShownVerdict : Detail → Role → Limits → List ℕ → List Frame → Verdict → List Shown → Type 0
IsShownVerdict detail role limits bytes fs (Refused refusal) shown =
    IsShownRefusal detail role limits bytes fs refusal shown
IsShownVerdict detail role limits bytes fs verdict shown = shown ≡ []

-- What is shown of a stream, as its bytes come.
pub record IsShownStream (detail : Detail) (role : Role) (limits : Limits) (bytes : List ℕ) (shown : List Shown)
    : Type 0 where
  pub frames : List Frame
  pub verdict : Verdict
  pub is_verdict : IsVerdict role limits bytes frames verdict
  pub of_frames : List Shown
  pub are_of_frames : AreShownFrames detail role limits bytes frames of_frames
  pub of_verdict : List Shown
  pub is_of_verdict : IsShownVerdict detail role limits bytes frames verdict of_verdict
  pub all : shown ≡ of_frames ++ of_verdict

-- The event of an item, if it is one.
abbrev pub event_in : Item → List MeantEvent
event_in (Event offset event frames) = event ∷ []
event_in item = []

-- The events among the items.
abbrev pub events_shown : List Shown → List MeantEvent
events_shown = flat_map (λ s. event_in s.item)

-- The head of an item, if it shows a frame.
abbrev pub head_in : Item → List HeadInfo
head_in (Head info) = info ∷ []
head_in item = []

-- The heads among the items.
abbrev pub heads_shown : List Shown → List HeadInfo
heads_shown = flat_map (λ s. head_in s.item)

-- ---- what is left over where a stream ends

-- Bytes as they came; nothing if there are none.
abbrev pub items_of_bytes : (ℕ → List ℕ → Item) → ℕ → List ℕ → List Item
items_of_bytes item offset [] = []
items_of_bytes item offset (b ∷ bytes) = item offset (b ∷ bytes) ∷ []

-- A frame with this head, of whose payload these bytes have come.
abbrev pub frame_so_far : HeadInfo → List ℕ → Frame
frame_so_far info payload =
    record { fin = info.fin; op = info.op; key = info.key; form = info.form; payload = payload }

-- What is left over of a frame that has begun after the frames fs, with this head and this part of its payload. A data
-- frame belongs to the open message, if there is one; a control doesn't.
abbrev pub items_of_part : List Frame → HeadInfo → List ℕ → List Item
items_of_part fs info part =
    if is_control info.op
    then open_items fs (Some 0) ++ Unfinished info.offset (Control info.op part) 1 (Some (info.len - length part)) ∷ []
    else open_item fs (unfinished fs ++ frame_so_far info part ∷ []) (Some (info.len - length part)) ∷ []

-- What is left over if only a part of a head has come, or nothing.
abbrev pub items_of_head : List Frame → List ℕ → List Item
items_of_head fs [] = open_items fs (Some 0)
items_of_head fs (b ∷ rest) =
    if nat_lt 0 (length (unfinished fs)) then open_items fs None else UnfinishedHead (length (stream fs)) ∷ []

-- What is left over of a stream that ends inside a frame or a message: after the frames fs, the rest came.
abbrev pub IsLeftOfRest : Role → Limits → List Frame → List ℕ → List Item → Type 0
IsLeftOfRest role limits fs rest items =
    ((info : HeadInfo) × (begun : BeginsWithHead role limits fs rest info)
    × (items ≡ items_of_part fs info (wire_payload info.key begun.following)))
    ⊎ (((info : HeadInfo) → BeginsWithHead role limits fs rest info → ⊥) × (items ≡ items_of_head fs rest))

-- What is left over of a stream where it ends: the tail after a Close, what is unfinished, or what wasn't read after a
-- refusal.
abbrev pub IsLeftOf : Role → Limits → List ℕ → List Frame → Verdict → List Item → Type 0
IsLeftOf role limits bytes fs (Accepted summary) items =
    items ≡ items_of_bytes Tail (length (stream fs)) (drop (length (stream fs)) bytes)
IsLeftOf role limits bytes fs (Cut summary) items =
    IsLeftOfRest role limits fs (drop (length (stream fs)) bytes) items
IsLeftOf role limits bytes fs (Refused refusal) items =
    items ≡ items_of_bytes Unread (refusal.offset + 1) (drop (refusal.offset + 1) bytes)

-- What is left over of a stream that ends with these bytes.
pub record IsLeftOver (role : Role) (limits : Limits) (bytes : List ℕ) (items : List Item) : Type 0 where
  pub frames : List Frame
  pub verdict : Verdict
  pub is_verdict : IsVerdict role limits bytes frames verdict
  pub is : IsLeftOf role limits bytes frames verdict items
