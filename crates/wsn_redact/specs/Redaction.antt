-- The redaction of a stream: the same bytes of framing, with stand-ins or zeros in place of what was said. RFC 6455
-- sections 5.2 to 5.6 and 7.1.
use Rattle.std.specs.Prelude.{◌≡◌, ℕ, ◌+◌, ◌⊎◌, ⊤, Bool, true, false, List, [], ◌∷◌, ◌++◌, length, take, drop, replicate, if◌then◌else◌}
use Rattle.wsn_wire.specs.declared.endpoint.Role.{Role}
use Rattle.wsn_wire.specs.declared.opcode.Op.{Op, TheVariants.{Continue, Text, Close}}
use Rattle.wsn_wire.specs.Frame.{Frame, stream, wire_payload}
use Rattle.wsn_rules.specs.declared.head_info.HeadInfo.{HeadInfo}
use Rattle.wsn_rules.specs.declared.verdict.Verdict.{Verdict, TheVariants.{Refused}}
use Rattle.wsn_rules.specs.Limits.{Limits}
use Rattle.wsn_rules.specs.Group.{unfinished, first_op, payload_of}
use Rattle.wsn_rules.specs.AfterClose.{HasNoClose, EndsWithClose}
use Rattle.wsn_rules.specs.Heads.{BeginsWithHead}
use Rattle.wsn_rules.specs.Verdict.{IsVerdict, judged_bytes}
use Rattle.wsn_redact.specs.StandIns.{IsRedacted, stood, due_after}

-- As many zeros as bytes.
abbrev pub zeros_for : List ℕ → List ℕ
zeros_for bytes = replicate (length bytes) 0

-- ---- a payload, or the part of it that came

-- The opcode is Text.
abbrev pub is_text : Op → Bool
is_text Text = true
is_text _ = false

-- [5.4, 5.6] A frame with this opcode, after the frames of the open message, is a data frame of a text message.
abbrev pub is_of_text : List Frame → Op → Bool
is_of_text group Continue = is_text (first_op group)
is_of_text group op = is_text op

-- A part of a text, after the earlier bytes of the message: what is in its place in the whole text redacted.
pub record IsRedactedPart (earlier part redacted : List ℕ) : Type 0 where
  pub before : List ℕ
  pub same_place : length before ≡ length earlier
  pub is : IsRedacted (earlier ++ part) (before ++ redacted)

-- [5.5.1] The body of a Close: its code as it is, and its reason redacted.
abbrev pub IsRedactedBody : List ℕ → List ℕ → Type 0
IsRedactedBody body redacted =
    (reason : List ℕ) × IsRedacted (drop 2 body) reason × (redacted ≡ take 2 body ++ reason)

-- Of a text, the part redacted; of anything else, zeros.
abbrev pub IsRedactedData : Bool → List ℕ → List ℕ → List ℕ → Type 0
IsRedactedData true earlier payload redacted = IsRedactedPart earlier payload redacted
IsRedactedData false earlier payload redacted = redacted ≡ zeros_for payload

-- The payload of a frame with this opcode, after the frames of the open message, or the part of it that came.
abbrev pub IsRedactedPayload : List Frame → Op → List ℕ → List ℕ → Type 0
IsRedactedPayload group Close payload redacted = IsRedactedBody payload redacted
IsRedactedPayload group op payload redacted =
    IsRedactedData (is_of_text group op) (payload_of group) payload redacted

-- ---- frames

-- The same frame with another payload.
abbrev pub with_payload : Frame → List ℕ → Frame
with_payload f payload = record { fin = f.fin; op = f.op; key = f.key; form = f.form; payload = payload }

-- The frames fs, after the frames `before`, each with its payload redacted.
abbrev pub AreRedacted : List Frame → List Frame → List Frame → Type 0
AreRedacted before [] [] = ⊤
AreRedacted before (f ∷ fs) (g ∷ gs) =
    (g ≡ with_payload f g.payload) × IsRedactedPayload (unfinished before) f.op f.payload g.payload
    × AreRedacted (before ++ f ∷ []) fs gs
AreRedacted before fs gs = ⊥

-- ---- what follows them

-- The rest begins with a head that is complete and valid so far: the head as it is, and the part of its frame's payload
-- redacted, and masked as it was.
pub record IsRedactedBegun (role : Role) (limits : Limits) (fs : List Frame) (rest redacted : List ℕ) : Type 0 where
  pub info : HeadInfo
  pub begins : BeginsWithHead role limits fs rest info
  pub part : List ℕ
  pub is_part :
      IsRedactedPayload (unfinished fs) info.op (wire_payload info.key begins.following) part
  pub redacted_is : redacted ≡ begins.head ++ wire_payload info.key part

-- After the frames fs: after a Close zeros; a part of a head as it is; a head and a part of its frame's payload.
abbrev pub IsRedactedRest : Role → Limits → List Frame → List ℕ → List ℕ → Type 0
IsRedactedRest role limits fs rest redacted =
    (EndsWithClose fs × (redacted ≡ zeros_for rest))
    ⊎ (HasNoClose fs × ((info : HeadInfo) → BeginsWithHead role limits fs rest info → ⊥) × (redacted ≡ rest))
    ⊎ (HasNoClose fs × IsRedactedBegun role limits fs rest redacted)

-- ---- a stream

-- The bytes after the offending byte; none without a refusal.
abbrev pub unjudged : Verdict → List ℕ → List ℕ
unjudged (Refused refusal) bytes = drop (refusal.offset + 1) bytes
unjudged verdict bytes = []

-- The redaction of a stream with this verdict, whose lawful frames are fs: the frames redacted, what follows them up to
-- the offending byte, and zeros for the bytes after it.
pub record IsRedactionAt (role : Role) (limits : Limits) (bytes : List ℕ) (fs : List Frame) (verdict : Verdict)
    (redacted : List ℕ) : Type 0 where
  pub frames : List Frame
  pub are_frames : AreRedacted [] fs frames
  pub rest : List ℕ
  pub is_rest : IsRedactedRest role limits fs (drop (length (stream fs)) (judged_bytes verdict bytes)) rest
  pub whole : redacted ≡ stream frames ++ (rest ++ zeros_for (unjudged verdict bytes))

-- The redaction of a stream.
pub record IsRedaction (role : Role) (limits : Limits) (bytes redacted : List ℕ) : Type 0 where
  pub frames : List Frame
  pub verdict : Verdict
  pub is_verdict : IsVerdict role limits bytes frames verdict
  pub is : IsRedactionAt role limits bytes frames verdict redacted

-- ---- computed

-- What is written in place of a payload, or of the part of it that came, if its text begins text.
abbrev pub redacted_payload : List Frame → Op → List ℕ → List ℕ
redacted_payload group Close payload = take 2 payload ++ stood [] (drop 2 payload)
redacted_payload group op payload =
    if is_of_text group op then stood (due_after [] (payload_of group)) payload else zeros_for payload

-- What lawful frames become after the frames `before`.
abbrev pub redacted_frames : List Frame → List Frame → List Frame
redacted_frames before [] = []
redacted_frames before (f ∷ fs) =
    with_payload f (redacted_payload (unfinished before) f.op f.payload) ∷ redacted_frames (before ++ f ∷ []) fs
