-- The open message, as it is kept after complete frames.
use Rattle.std.specs.Prelude.{◌≡◌, ◌≢◌, Option, None, Some, List, [], ◌∷◌, ◌++◌, length, if◌then◌else◌, ℕ, ◌<◌, ◌^◌, true}
use Rattle.wsn_wire.specs.declared.opcode.Op.TheVariants.{Text}
use Rattle.wsn_wire.specs.Frame.{Frame, is_control, first_byte}
use Rattle.wsn_text.specs.Utf8.{BeginsText}
use Rattle.wsn_text.specs.Validated.{HasValidated}
use Rattle.wsn_frame.specs.declared.kept_message.OpenMessage.{OpenMessage}
use Rattle.wsn_rules.specs.Group.{first_op, payload_of, is_data}
use Rattle.wsn_frame.specs.PayloadChecks.{HasChecked}
use Rattle.wsn_frame.specs.declared.heads.Head.{Head}
use Rattle.wsn_frame.specs.declared.payload_check.PayloadCheck.{PayloadCheck}

-- The frames of the message are the group, which is not empty: their number, the length of their payloads, and the
-- state of the text if it is a text message.
pub record IsKept (m : OpenMessage) (group : List Frame) : Type 0 where
  pub some : group ≢ []
  pub frames : m.frames ≡ length group
  pub size : m.size ≡ length (payload_of group)
  pub binary : m.text ≡ None → first_op group ≢ Text
  pub text : (utf8 : _) → m.text ≡ Some utf8 → first_op group ≡ Text
  pub taken : (utf8 : _) → m.text ≡ Some utf8 → HasValidated utf8 (payload_of group)
  pub begins : (utf8 : _) → m.text ≡ Some utf8 → BeginsText (payload_of group)

-- The group is the unfinished frames of the open message; it is empty if no message is open.
abbrev pub IsOpenMessage : Option OpenMessage → List Frame → Type 0
IsOpenMessage None group = group ≡ []
IsOpenMessage (Some m) group = IsKept m group

-- The group after one more frame.
abbrev pub group_after : List Frame → Frame → List Frame
group_after group f = if is_control f.op then group else (if f.fin then [] else group ++ f ∷ [])

-- After a frame with this head, whose payload was checked with this result, this message is open, or none. The frame is
-- within every limit.
abbrev pub IsMessageAfter : Option OpenMessage → Head → PayloadCheck → Option OpenMessage → Type 0
IsMessageAfter message head check after =
    (group : List Frame) (f : Frame) → IsOpenMessage message group → f.fin ≡ head.first.fin → f.op ≡ head.first.op →
    head.len ≡ length f.payload → HasChecked group (first_byte f.fin f.op) check f.payload →
    length (payload_of (group ++ f ∷ [])) < 2 ^ 32 → length group < 2 ^ 63 → IsOpenMessage after (group_after group f)

-- The message with one more fragment of the given length.
abbrev pub IsOneFragmentMore : Option OpenMessage → ℕ → PayloadCheck → OpenMessage → Type 0
IsOneFragmentMore message len check after =
    (group : List Frame) (f : Frame) → IsOpenMessage message group → is_data f ≡ true →
    HasChecked group (first_byte f.fin f.op) check f.payload → len ≡ length f.payload →
    length (payload_of (group ++ f ∷ [])) < 2 ^ 32 → length group < 2 ^ 63 → IsKept after (group ++ f ∷ [])
