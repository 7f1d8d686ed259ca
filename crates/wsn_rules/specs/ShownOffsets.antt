-- Where the items that are shown of a stream are in it: every byte of the stream, with its offset, is in exactly one
-- item, each item has the bytes that it says, the first of them is at its offset, and it is shown with the last of them.
use Rattle.std.specs.Prelude.{◌≡◌, ◌≢◌, ℕ, ◌+◌, ◌<◌, ◌≤◌, ◌^◌, ◌⊎◌, ⊤, Bool, true, false, IfSome, Option, None, Some, List, [], ◌∷◌, ◌++◌, length, map}
use Rattle.std.specs.List.{AllByRecursion, flat_map, AllZip}
use Rattle.wsn_wire.specs.declared.opcode.Kind.{Kind}
use Rattle.wsn_wire.specs.declared.opcode.Op.TheVariants.{Continue, Close}
use Rattle.wsn_wire.specs.Frame.{Frame, IsKey, FormFits, IsEncodable, is_control, head_bytes, frame_bytes, wire_payload}
use Rattle.wsn_wire.specs.ReceivedHead.{len_form_at, length_count, key_count}
use Rattle.wsn_rules.specs.declared.head_info.HeadInfo.{HeadInfo}
use Rattle.wsn_rules.specs.Group.{is_data, kind_of, payload_of}
use Rattle.wsn_rules.specs.BadCharacter.{PlacedByte, placed}
use Rattle.wsn_rules.specs.Meaning.{Message, Control}
use Rattle.wsn_rules.specs.ShownStream.{Item, Shown, frame_so_far}
use Rattle.wsn_rules.specs.ShownStream.Item.{Event, Head, Unfinished, UnfinishedHead, RefusedFrame, Unread, Tail}

-- ---- parts of a stream

-- The elements are dealt to these piles: each is in exactly one pile, and a pile has its elements in their order.
abbrev pub AreDealt : {A : Type 0} → List A → List (List A) → Type 0
AreDealt [] piles = AllByRecursion (λ pile. pile ≡ []) piles
AreDealt {A} (x ∷ xs) piles =
    (before : List (List A)) × (pile : List A) × (after : List (List A)) × (piles ≡ before ++ (x ∷ pile) ∷ after)
    × AreDealt xs (before ++ pile ∷ after)

-- The frames are those of a message of this kind, with this payload and this number of frames.
pub record IsGroupOf (group : List Frame) (kind : Kind) (payload : List ℕ) (count : ℕ) : Type 0 where
  pub data_frames : AllByRecursion (λ f. is_data f ≡ true) group
  pub of_kind : kind ≡ kind_of group
  pub joined : payload ≡ payload_of group
  pub counted : count ≡ length group

-- A whole head, and what has come of the payload after it.
abbrev pub begun_bytes : HeadInfo → List ℕ → List ℕ
begun_bytes info following = head_bytes info.fin info.op info.key info.form info.len ++ following

-- ---- bytes and frames at their offsets

-- The first of the bytes is at this offset.
abbrev pub BeginsAt : ℕ → List PlacedByte → Type 0
BeginsAt offset [] = ⊥
BeginsAt offset (b ∷ pile) = b.offset ≡ offset

-- The offset after the last of the bytes; n if there are none.
abbrev pub end_or : ℕ → List PlacedByte → ℕ
end_or n [] = n
end_or n (b ∷ pile) = end_or (b.offset + 1) pile

-- The offset after the last of the bytes.
abbrev pub end_of : List PlacedByte → ℕ
end_of = end_or 0

-- A whole frame, and the offset of its first byte.
pub record PlacedFrame : Type 0 where
  pub offset : ℕ
  pub frame : Frame

-- The frames without their offsets.
abbrev pub frames_in : List PlacedFrame → List Frame
frames_in = map (λ f. f.frame)

-- The bytes of frames, each frame in one piece.
abbrev pub placed_frames : List PlacedFrame → List PlacedByte
placed_frames = flat_map (λ f. placed f.offset (frame_bytes f.frame))

-- ---- frames

-- A frame of a message that isn't its last one.
pub record IsFragment (f : Frame) : Type 0 where
  pub encodable : IsEncodable f
  pub data_frame : is_data f ≡ true
  pub not_final : f.fin ≡ false

-- The last frame of a message.
pub record IsLastFrame (f : Frame) : Type 0 where
  pub encodable : IsEncodable f
  pub data_frame : is_data f ≡ true
  pub final : f.fin ≡ true

-- A control frame.
pub record IsControlFrame (f : Frame) : Type 0 where
  pub encodable : IsEncodable f
  pub control : is_control f.op ≡ true
  pub final : f.fin ≡ true

-- The first frame begins a message, and the others continue it.
abbrev pub BeginOnce : List Frame → Type 0
BeginOnce [] = ⊤
BeginOnce (f ∷ fs) = (f.op ≢ Continue) × AllByRecursion (λ g. g.op ≡ Continue) fs

-- The frames are those of one message of this kind, with this payload and this number of frames.
pub record IsMessageOf (frames : List Frame) (kind : Kind) (payload : List ℕ) (count : ℕ) : Type 0 where
  pub group : IsGroupOf frames kind payload count
  pub once : BeginOnce frames

-- ---- frames that aren't whole

-- A head that can be encoded.
pub record IsEncodableHead (info : HeadInfo) : Type 0 where
  pub key : IfSome info.key IsKey
  pub form : FormFits info.form info.len
  pub size : info.len < 2 ^ 63

-- A part of a head: it ends before the second byte, or before the length and the key that the second byte requires.
abbrev pub IsPartOfHead : List ℕ → Type 0
IsPartOfHead [] = ⊥
IsPartOfHead (first ∷ []) = ⊤
IsPartOfHead (first ∷ second ∷ came) = length came < length_count (len_form_at second) + key_count second

-- After a whole head these bytes of the payload have come, and it lacks this number of bytes, at least one.
pub record HasBegun (info : HeadInfo) (following : List ℕ) (lacks : ℕ) : Type 0 where
  pub head : IsEncodableHead info
  pub some : 1 ≤ lacks
  pub exact : length following + lacks ≡ info.len

-- Bytes of one frame: after a whole head there are no more bytes than its payload has.
abbrev pub AreOfOneFrame : List ℕ → Type 0
AreOfOneFrame bytes = (info : HeadInfo) (following : List ℕ) → IsEncodableHead info → bytes ≡ begun_bytes info following
    → length following ≤ info.len

-- The evidence of a refused frame whose bytes up to the offending one are `seen`: the payload so far, unmasked, if a
-- whole head and some of the payload have come; otherwise the bytes as they came.
abbrev pub IsEvidenceIn : List ℕ → List ℕ → Type 0
IsEvidenceIn seen evidence =
    ((info : HeadInfo) × (following : List ℕ) × IsEncodableHead info × (following ≢ [])
    × (seen ≡ begun_bytes info following) × (evidence ≡ wire_payload info.key following))
    ⊎ (((info : HeadInfo) (following : List ℕ) → IsEncodableHead info → seen ≡ begun_bytes info following → following
    ≡ []) × (evidence ≡ seen))

-- ---- the bytes of an item

-- The bytes of an open message with these fragments: they alone; or they and a part of the next head; or they and a
-- frame that has begun.
abbrev pub IsOpenPile : List PlacedFrame → Kind → List ℕ → ℕ → Option ℕ → List PlacedByte → Type 0
IsOpenPile fragments kind payload count None pile =
    (offset : ℕ) × (part : List ℕ) × IsPartOfHead part × IsMessageOf (frames_in fragments) kind payload count
    × (pile ≡ placed_frames fragments ++ placed offset part)
IsOpenPile fragments kind payload count (Some lacks) pile =
    ((lacks ≡ 0) × IsMessageOf (frames_in fragments) kind payload count × (pile ≡ placed_frames fragments))
    ⊎ ((info : HeadInfo) × (following : List ℕ) × HasBegun info following lacks
    × IsMessageOf (frames_in fragments ++ frame_so_far info (wire_payload info.key following) ∷ []) kind payload count
    × (pile ≡ placed_frames fragments ++ placed info.offset (begun_bytes info following)))

-- The bytes of an item. Each frame of a message is one piece, and controls may be between them; any other item is one
-- piece.
abbrev pub IsPileOf : Item → List PlacedByte → Type 0
IsPileOf (Event offset (Message kind payload) count) pile =
    (fragments : List PlacedFrame) × (last : PlacedFrame) × AllByRecursion IsFragment (frames_in fragments)
    × IsLastFrame last.frame × IsMessageOf (frames_in fragments ++ last.frame ∷ []) kind payload count
    × (pile ≡ placed_frames fragments ++ placed last.offset (frame_bytes last.frame))
IsPileOf (Event offset (Control op body) count) pile =
    (f : Frame) × IsControlFrame f × (f.op ≡ op) × (f.payload ≡ body) × (count ≡ 1)
    × (pile ≡ placed offset (frame_bytes f))
IsPileOf (Unfinished offset (Message kind payload) count lacks) pile =
    (fragments : List PlacedFrame) × AllByRecursion IsFragment (frames_in fragments)
    × IsOpenPile fragments kind payload count lacks pile
IsPileOf (Unfinished offset (Control op body) count lacks) pile =
    (info : HeadInfo) × (following : List ℕ) × (missing : ℕ) × HasBegun info following missing
    × (is_control info.op ≡ true) × (info.op ≡ op) × (wire_payload info.key following ≡ body) × (count ≡ 1)
    × (lacks ≡ Some missing) × (pile ≡ placed offset (begun_bytes info following))
IsPileOf (Head info) pile =
    IsEncodableHead info × (pile ≡ placed info.offset (head_bytes info.fin info.op info.key info.form info.len))
IsPileOf (UnfinishedHead offset) pile = (part : List ℕ) × IsPartOfHead part × (pile ≡ placed offset part)
IsPileOf (RefusedFrame offset refusal evidence character) pile =
    (seen : List ℕ) × AreOfOneFrame seen × IsEvidenceIn seen evidence × (offset + length seen ≡ refusal.offset + 1)
    × (pile ≡ placed offset seen)
IsPileOf (Unread offset bytes) pile = pile ≡ placed offset bytes
IsPileOf (Tail offset bytes) pile = pile ≡ placed offset bytes

-- The offset of an item.
abbrev pub offset_of : Item → ℕ
offset_of (Event offset event count) = offset
offset_of (Head info) = info.offset
offset_of (Unfinished offset event count lacks) = offset
offset_of (UnfinishedHead offset) = offset
offset_of (RefusedFrame offset refusal evidence character) = offset
offset_of (Unread offset bytes) = offset
offset_of (Tail offset bytes) = offset

-- The bytes are the item's, the first of them is at its offset, and all have come when it is shown.
pub record IsPlaced (s : Shown) (pile : List PlacedByte) : Type 0 where
  pub begins : BeginsAt (offset_of s.item) pile
  pub is_pile : IsPileOf s.item pile
  pub within : end_of pile ≤ s.after

-- ---- all items

-- Each pile is placed as its item says.
abbrev pub ArePlaced : List Shown → List (List PlacedByte) → Type 0
ArePlaced = AllZip IsPlaced

-- The item is a message that isn't complete.
abbrev pub is_open_message : Item → Bool
is_open_message (Unfinished offset (Message kind payload) count lacks) = true
is_open_message item = false

-- The item interrupts a message: a Close, a control that isn't complete, or a refused frame.
abbrev pub Interrupts : Item → Type 0
Interrupts (Event offset (Control Close body) count) = ⊤
Interrupts (Unfinished offset (Control op body) count lacks) = ⊤
Interrupts (RefusedFrame offset refusal evidence character) = ⊤
Interrupts item = ⊥

-- A message that isn't complete is shown with this number of bytes: with the next item, which interrupts it; or with
-- all bytes, if there is none.
abbrev pub IsShownWithNext : ℕ → ℕ → List Shown → Type 0
IsShownWithNext total after [] = after ≡ total
IsShownWithNext total after (s ∷ shown) = Interrupts s.item × (after ≡ s.after)

-- The item is the end of the stream: a frame lacks bytes, or bytes come after a refusal or a Close.
abbrev pub IsEnd : Item → Type 0
IsEnd (Unfinished offset event count lacks) = lacks ≢ Some 0
IsEnd (UnfinishedHead offset) = ⊤
IsEnd (Unread offset bytes) = ⊤
IsEnd (Tail offset bytes) = ⊤
IsEnd item = ⊥

-- The items are in the order of their last bytes, and those of the first are after n bytes: each is shown with its last
-- byte, or is a message that isn't complete. What is the end of the stream is last.
abbrev pub AreInOrder : ℕ → ℕ → List Shown → List (List PlacedByte) → Type 0
AreInOrder total n [] [] = ⊤
AreInOrder total n (s ∷ shown) (pile ∷ piles) = (IsEnd s.item → shown ≡ [])
    × (((is_open_message s.item ≡ true) × IsShownWithNext total s.after shown × AreInOrder total n shown piles)
    ⊎ ((is_open_message s.item ≡ false) × (s.after ≡ end_of pile) × (n < s.after)
    × AreInOrder total s.after shown piles))
AreInOrder total n shown piles = ⊥

-- With the detail of events every byte of the stream is in exactly one of its items, and each is where it says.
pub record AreInPlace (bytes : List ℕ) (shown : List Shown) : Type 0 where
  pub piles : List (List PlacedByte)
  pub dealt : AreDealt (placed 0 bytes) piles
  pub are_placed : ArePlaced shown piles
  pub in_order : AreInOrder (length bytes) 0 shown piles

-- The pile is a part of these bytes, in one piece.
abbrev pub IsPartOf : List PlacedByte → List PlacedByte → Type 0
IsPartOf bytes pile = (before after : List PlacedByte) × (bytes ≡ before ++ (pile ++ after))

-- With the detail of frames each item, a head or a refused frame, is where it says.
pub record AreHeadsInPlace (bytes : List ℕ) (shown : List Shown) : Type 0 where
  pub piles : List (List PlacedByte)
  pub parts : AllByRecursion (IsPartOf (placed 0 bytes)) piles
  pub are_placed : ArePlaced shown piles
  pub in_order : AreInOrder (length bytes) 0 shown piles
