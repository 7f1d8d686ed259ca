-- The last payload bytes of the open message, with their offsets, and the bad character that they end with.
use Rattle.std.specs.Prelude.{◌≡◌, ℕ, ◌+◌, ◌<◌, ◌^◌, ⊤, false, Option, None, Some, List, ◌++◌, length, map}
use Rattle.wsn_wire.specs.declared.refusal.Reason.{Reason, TheVariants.{TextBad}}
use Rattle.wsn_wire.specs.Frame.{Frame, is_control, stream}
use Rattle.wsn_rules.specs.declared.head_info.HeadInfo.{HeadInfo}
use Rattle.wsn_rules.specs.BadCharacter.{BadCharacter, payload_offset, last_of, character_of, PlacedByte}
use Rattle.wsn_rules.specs.Evidence.{EndsBad}
use Rattle.wsn_rules.specs.Group.{unfinished, payload_of}
use Rattle.wsn_scan.specs.Positions.{Position, BetweenFrames, InFrame}
use Rattle.wsn_show.specs.declared.last_payload.StreamByte.{StreamByte}
use Rattle.wsn_show.specs.declared.last_payload.LastPayload.{LastPayload}
use Rattle.wsn_show.specs.declared.last_payload.HeldCharacter.{HeldCharacter}

-- The bytes, as they are held.
abbrev pub placed_bytes : List StreamByte → List PlacedByte
placed_bytes = map (λ b. record { offset = b.offset; byte = b.byte })

-- These bytes came, and the last four are held.
abbrev pub HasLastPayload : LastPayload → List PlacedByte → Type 0
HasLastPayload last came = placed_bytes last.held.items ≡ last_of 4 came

-- The bad character, as it is held.
abbrev pub character_held : HeldCharacter → BadCharacter
character_held held = record {
  offset = held.offset;
  in_payload = held.in_payload;
  bytes = held.bytes;
  earlier = held.earlier;
}

-- The same, if there is one.
abbrev pub character_held_in : Option HeldCharacter → Option BadCharacter
character_held_in None = None
character_held_in (Some held) = Some (character_held held)

-- ---- where a text goes wrong

-- A data frame with this head has begun, and this is its payload so far, at the end of the frame's bytes so far. With the
-- last one of the next bytes, the text of its message goes wrong. None of the counts is too large.
pub record GoesWrong (fs : List Frame) (head : HeadInfo) (payload rest bytes : List ℕ) : Type 0 where
  pub data_frame : is_control head.op ≡ false
  pub sized : payload_offset head + length payload ≡ length (stream fs) + length rest
  pub ends_bad : EndsBad (payload_of (unfinished fs) ++ (payload ++ bytes))
  pub small : length (stream fs) + length rest + length bytes < 2 ^ 64
  pub few_bytes : length (payload_of (unfinished fs)) + length payload + length bytes < 2 ^ 64

-- If a refusal is for a bad character in the frame at this position, its text goes wrong with the last of these bytes.
abbrev pub GoesWrongAt : Reason → List Frame → Position → List ℕ → List ℕ → Type 0
GoesWrongAt TextBad fs (InFrame head payload) rest bytes = GoesWrong fs head payload rest bytes
GoesWrongAt reason fs at rest bytes = ⊤

-- The bad character that is shown of a refusal with the last of these bytes.
abbrev pub character_at : Reason → List Frame → Position → List ℕ → Option BadCharacter
character_at reason fs BetweenFrames bytes = None
character_at reason fs (InFrame head payload) bytes = character_of reason fs head (payload ++ bytes)
