-- The character with which a text goes wrong: its bytes up to the offending one, and where they are. They may be in
-- more than one frame. RFC 6455 sections 5.6 and 8.1.
use Rattle.std.specs.Prelude.{◌≡◌, ◌≢◌, ℕ, ◌+◌, ◌-◌, ◌<◌, ◌≤◌, true, false, Option, None, Some, List, [], ◌∷◌, ◌++◌, length, drop, map, if◌then◌else◌}
use Rattle.std.specs.List.{AllByRecursion}
use Rattle.std.specs.Str.Lossy.{utf8_valid_len}
use Rattle.wsn_wire.specs.declared.refusal.Reason.{Reason, TheVariants.{TextBad}}
use Rattle.wsn_wire.specs.Frame.{Frame, head_bytes, frame_bytes, stream}
use Rattle.wsn_text.specs.Utf8.{IsText, BeginsText}
use Rattle.wsn_rules.specs.declared.head_info.HeadInfo.{HeadInfo}
use Rattle.wsn_rules.specs.Group.{is_data, unfinished, payload_of}
use Rattle.wsn_rules.specs.Heads.{info_of}
use Rattle.wsn_rules.specs.Summary.{ends_message}

-- A byte of a stream, and its offset.
pub record PlacedByte : Type 0 where
  pub offset : ℕ
  pub byte : ℕ

-- Bytes in one piece, the first of them at this offset.
abbrev pub placed : ℕ → List ℕ → List PlacedByte
placed offset [] = []
placed offset (b ∷ bytes) = record { offset = offset; byte = b } ∷ placed (offset + 1) bytes

-- The offset of its first byte in the stream, the place of that byte in the payload of the message, from 0, its bytes up
-- to the offending one, and the end of the payload of the message in frames before the refused one.
pub record BadCharacter : Type 0 where
  pub offset : ℕ
  pub in_payload : ℕ
  pub bytes : List ℕ
  pub earlier : List ℕ

-- ---- the payload of the message, with offsets

-- The offset of the first byte after a head.
abbrev pub payload_offset : HeadInfo → ℕ
payload_offset info = info.offset + length (head_bytes info.fin info.op info.key info.form info.len)

-- The payloads of the data frames among these, the first of which is at this offset.
abbrev pub placed_payloads : ℕ → List Frame → List PlacedByte
placed_payloads offset [] = []
placed_payloads offset (f ∷ fs) =
    (if is_data f then placed (payload_offset (info_of offset f)) f.payload else [])
    ++ placed_payloads (offset + length (frame_bytes f)) fs

-- The last n elements.
abbrev pub last_of : {A : Type 0} → ℕ → List A → List A
last_of n xs = drop (length xs - n) xs

-- The payload of the message that is open after the frames fs.
abbrev pub open_payload : List Frame → List PlacedByte
open_payload fs = last_of (length (payload_of (unfinished fs))) (placed_payloads 0 fs)

-- The payload of the message so far, if after the frames fs a data frame with this head and this part of its payload
-- has come.
abbrev pub message_payload : List Frame → HeadInfo → List ℕ → List PlacedByte
message_payload fs info part = open_payload fs ++ placed (payload_offset info) part

-- ---- the character

-- The offset of the first byte; 0 if there is none.
abbrev pub first_offset : List PlacedByte → ℕ
first_offset [] = 0
first_offset (b ∷ bytes) = b.offset

-- The bytes without their offsets.
abbrev pub bytes_of : List PlacedByte → List ℕ
bytes_of = map (λ b. b.byte)

-- The end of the payload of the message that is open after the frames fs: its last 48 bytes.
abbrev pub earlier_end : List Frame → List ℕ
earlier_end fs = last_of 48 (payload_of (unfinished fs))

-- What follows the whole characters with which this payload begins. In frames before the refused one the payload ends
-- with `earlier`.
abbrev pub bad_character : List ℕ → List PlacedByte → BadCharacter
bad_character earlier payload = record {
  offset = first_offset (drop (utf8_valid_len (bytes_of payload)) payload);
  in_payload = utf8_valid_len (bytes_of payload);
  bytes = bytes_of (drop (utf8_valid_len (bytes_of payload)) payload);
  earlier = earlier;
}

-- The bad character, if the refusal is for one, of a frame that is refused after the frames fs, with this head and this
-- part of its payload up to the offending byte.
abbrev pub character_of : Reason → List Frame → HeadInfo → List ℕ → Option BadCharacter
character_of TextBad fs info part = Some (bad_character (earlier_end fs) (message_payload fs info part))
character_of reason fs info part = None

-- ---- for the law

-- The payload is whole characters, as many as it begins with, and then the bytes of this one, one to four: all but the
-- last begin text, and with the last they don't.
pub record GoesWrongWith (payload : List ℕ) (character : BadCharacter) : Type 0 where
  pub whole : List ℕ
  pub is : payload ≡ whole ++ character.bytes
  pub in_payload : character.in_payload ≡ length whole
  pub text : IsText whole
  pub longest : (front rest : List ℕ) → payload ≡ front ++ rest → IsText front → length front ≤ length whole
  pub begun : List ℕ
  pub last : ℕ
  pub bytes : character.bytes ≡ begun ++ last ∷ []
  pub begins : BeginsText begun
  pub bad : ¬ (BeginsText character.bytes)
  pub few : length character.bytes ≤ 4

-- This is the end of the payload: 48 bytes, or all of it.
pub record IsEarlierEnd (payload earlier : List ℕ) : Type 0 where
  pub front : List ℕ
  pub is : payload ≡ front ++ earlier
  pub few : length earlier ≤ 48
  pub enough : front ≢ [] → length earlier ≡ 48

-- A byte of the payload of the message that is open after the frames fs, by its index there, from 0: it is byte k of the
-- payload of one of the frames, and at this offset in the stream.
pub record IsPayloadByte (fs : List Frame) (index offset : ℕ) : Type 0 where
  pub before : List Frame
  pub frame : Frame
  pub after : List Frame
  pub k : ℕ
  pub whole : fs ≡ before ++ frame ∷ after
  pub data_frame : is_data frame ≡ true
  pub goes_on : AllByRecursion (λ f. ends_message f ≡ false) (frame ∷ after)
  pub within : k < length frame.payload
  pub index_is : index ≡ length (payload_of (unfinished before)) + k
  pub offset_is :
      offset ≡ length (stream before) + length (head_bytes frame.fin frame.op frame.key frame.form (length frame.payload)) + k
