-- What a part of a frame becomes, and what is kept between the parts.
use Rattle.std.specs.Prelude.{◌≡◌, ◌≢◌, ℕ, ◌+◌, ◌-◌, ◌≤◌, ◌⊎◌, ◌↔◌, Bool, true, false, not, Option, Some, List, [], ◌∷◌, ◌++◌, length, take, drop, if◌then◌else◌}
use Rattle.wsn_wire.specs.declared.endpoint.Role.{Role}
use Rattle.wsn_wire.specs.declared.opcode.Op.{Op, TheVariants.{Text, Binary, Close, Ping, Pong}}
use Rattle.wsn_wire.specs.declared.refusal.Reason.{Reason, TheVariants.{TextBad}}
use Rattle.wsn_wire.specs.Frame.{Frame, head_bytes, stream, wire_payload}
use Rattle.wsn_text.specs.Utf8.{BeginsText}
use Rattle.wsn_text.specs.Validated.{HasValidated}
use Rattle.wsn_frame.specs.Payloads.{unmasked_by}
use Rattle.wsn_rules.specs.declared.verdict.Refusal.{Refusal}
use Rattle.wsn_rules.specs.declared.verdict.Verdict.TheVariants.{Refused}
use Rattle.wsn_rules.specs.AfterClose.{HasNoClose, EndsWithClose}
use Rattle.wsn_rules.specs.Group.{unfinished, first_op, payload_of}
use Rattle.wsn_rules.specs.Limits.{Limits}
use Rattle.wsn_rules.specs.Verdict.{IsRefused}
use Rattle.wsn_scan.specs.declared.part.Part.{Part}
use Rattle.wsn_scan.specs.declared.part.Taken.{Taken}
use Rattle.wsn_scan.specs.declared.part.Taken.TheVariants as taken
use Rattle.wsn_scan.specs.declared.scan.Scan.{Scan}
use Rattle.wsn_scan.specs.FollowedScans.{HasFollowed}
use Rattle.wsn_scan.specs.Positions.{Position, BetweenFrames, InFrame}
use Rattle.wsn_scan.specs.Scans.{HasScanned, refusal_in}
use Rattle.wsn_redact.specs.declared.redacted_payload.Redactor.{Redactor}
use Rattle.wsn_redact.specs.Dues.{due_of}
use Rattle.wsn_redact.specs.StandIns.{single_stand_in, stood, due_after}
use Rattle.wsn_redact.specs.Redaction.{zeros_for, is_text, is_of_text, redacted_payload, redacted_frames, IsRedactionAt}

-- ---- what a part of a payload becomes, unmasked

-- What is written for a part of a payload of a frame with this opcode, of whose payload `done` bytes have come, if its
-- message is a text or isn't and these bytes are due.
abbrev pub replaced : Op → Bool → List ℕ → ℕ → List ℕ → List ℕ
replaced Close text due done payload = take (2 - done) payload ++ stood due (drop (2 - done) payload)
replaced Ping text due done payload = zeros_for payload
replaced Pong text due done payload = zeros_for payload
replaced op text due done payload = if text then stood due payload else zeros_for payload

-- The bytes that are due after it.
abbrev pub due_then : Op → Bool → List ℕ → ℕ → List ℕ → List ℕ
due_then Close text due done payload = due_after due (drop (2 - done) payload)
due_then Ping text due done payload = due
due_then Pong text due done payload = due
due_then op text due done payload = if text then due_after due payload else due

-- The bytes of it that are of a Close's reason.
abbrev pub reason_in : Op → ℕ → List ℕ → List ℕ
reason_in Close done payload = drop (2 - done) payload
reason_in op done payload = []

-- ---- where a frame begins

-- Whether the message of a frame with this opcode is a text: of a control, the open message.
abbrev pub text_at : Op → Bool → Bool
text_at Text was = true
text_at Binary was = false
text_at op was = was

-- What is due at the beginning of its payload.
abbrev pub due_begun : Op → List ℕ → List ℕ
due_begun Text due = []
due_begun Close due = []
due_begun op due = due

-- ---- a part of a frame

-- A frame with this opcode has begun.
pub record IsBegunWith (old new : Redactor) (op : Op) : Type 0 where
  pub done : new.done ≡ 0
  pub text : new.text ≡ text_at op old.text
  pub due : due_of new.due ≡ due_begun op (due_of old.due)
  pub reason : op ≡ Close → HasValidated new.reason []

-- A part of its payload was replaced.
pub record Replaces (old new : Redactor) (op : Op) (before after : List ℕ) : Type 0 where
  pub written : after ≡ replaced op old.text (due_of old.due) old.done before
  pub due : due_of new.due ≡ due_then op old.text (due_of old.due) old.done before
  pub text : new.text ≡ old.text
  pub done : new.done ≡ old.done
  pub key : new.key ≡ old.key
  pub reason : (taken : List ℕ) → HasValidated old.reason taken →
      HasValidated new.reason (taken ++ reason_in op old.done before)

-- Whether a Close's reason has gone wrong with a part of its body; of any other frame it hasn't.
abbrev pub IsBadReason : Redactor → Op → List ℕ → Bool → Type 0
IsBadReason kept Close part bad =
    (taken : List ℕ) → HasValidated kept.reason taken →
    (bad ≡ false ↔ BeginsText (taken ++ reason_in Close kept.done part))
IsBadReason kept op part bad = bad ≡ false

-- A part of a frame has come, and its payload was replaced and masked.
pub record TakesPart (old new : Redactor) (part : Part) (before after : List ℕ) : Type 0 where
  pub begun : Redactor
  pub begins : part.begins ≡ true → IsBegunWith old begun part.head.op
  pub goes_on : part.begins ≡ false → begun ≡ old
  pub middle : List ℕ
  pub last : Redactor
  pub replaces : Replaces begun last part.head.op before middle
  pub masks : after ≡ unmasked_by part.head.key begun.done middle
  pub due : new.due ≡ last.due
  pub text : new.text ≡ last.text
  pub reason : new.reason ≡ last.reason
  pub done : new.done ≡ last.done + length before
  pub op : new.op ≡ part.head.op
  pub key : new.key ≡ part.head.key
  pub inside : new.inside ≡ not part.ends

-- What bytes of a payload up to an offending one become: it is by itself, if it goes wrong there.
abbrev pub refused_part : Redactor → Bool → List ℕ → ℕ → List ℕ
refused_part kept wrong front last =
    if wrong then replaced kept.op kept.text (due_of kept.due) kept.done front ++ single_stand_in last ∷ []
    else replaced kept.op kept.text (due_of kept.due) kept.done (front ++ last ∷ [])

-- The bytes were replaced so and masked: the text goes wrong with the last one if the refusal says so, or if a Close's
-- reason does.
abbrev pub RefusesPart : Redactor → Reason → List ℕ → List ℕ → Type 0
RefusesPart kept reason before after =
    (front : List ℕ) (last : ℕ) → before ≡ front ++ last ∷ [] →
    (bad : Bool) × IsBadReason kept kept.op before bad
    × ((wrong : Bool) × (wrong ≡ true ↔ (bad ≡ true) ⊎ (reason ≡ TextBad))
    × (after ≡ unmasked_by kept.key kept.done (refused_part kept wrong front last)))

-- What a call of the scan found, and what its bytes became: of a part of a frame the head stays; bytes after a Close are
-- zeros; at a refusal, the bytes up to the offending one.
abbrev pub Rewrites : Redactor → Redactor → Option Refusal → Taken → Part → List ℕ → List ℕ → Type 0
Rewrites old new refusal taken.More part before after = (new ≡ old) × (after ≡ before)
Rewrites old new refusal taken.Closed part before after = (new ≡ old) × (after ≡ zeros_for before)
Rewrites old new refusal taken.Part part before after =
    (out : List ℕ) × TakesPart old new part (drop part.start before) out × (after ≡ take part.start before ++ out)
Rewrites old new refusal taken.Refused part before after =
    (r : Refusal) → refusal ≡ Some r → (old.inside ≡ false → after ≡ before)
    × (old.inside ≡ true → RefusesPart old r.reason before after)

-- ---- what is kept between parts

-- Of the open message: whether it is a text, and what is due.
abbrev pub KeepsOpen : Redactor → List Frame → Type 0
KeepsOpen kept group = group ≢ [] → (kept.text ≡ is_text (first_op group))
    × (is_text (first_op group) ≡ true → due_of kept.due ≡ due_after [] (payload_of group))

-- In a frame with this opcode, of whose payload this has come.
abbrev pub KeepsIn : Redactor → List Frame → Op → List ℕ → Type 0
KeepsIn kept group Close payload =
    (due_of kept.due ≡ due_after [] (drop 2 payload)) × HasValidated kept.reason (drop 2 payload)
KeepsIn kept group Ping payload = KeepsOpen kept group
KeepsIn kept group Pong payload = KeepsOpen kept group
KeepsIn kept group op payload =
    (kept.text ≡ is_of_text group op)
    × (is_of_text group op ≡ true → due_of kept.due ≡ due_after [] (payload_of group ++ payload))

-- After these frames, at this position.
abbrev pub KeepsAt : Redactor → List Frame → Position → Type 0
KeepsAt kept fs BetweenFrames = (kept.inside ≡ false) × (HasNoClose fs → KeepsOpen kept (unfinished fs))
KeepsAt kept fs (InFrame info payload) =
    (kept.inside ≡ true) × (kept.op ≡ info.op) × (kept.key ≡ info.key) × (kept.done ≡ length payload)
    × KeepsIn kept (unfinished fs) info.op payload

-- ---- over the bytes

-- What was written for the rest after whole frames, up to this position.
abbrev pub IsRestWritten : List Frame → List ℕ → Position → List ℕ → Type 0
IsRestWritten fs rest BetweenFrames written =
    (EndsWithClose fs × (written ≡ zeros_for rest)) ⊎ (HasNoClose fs × (written ≡ rest))
IsRestWritten fs rest (InFrame info payload) written =
    written
    ≡ head_bytes info.fin info.op info.key info.form info.len
    ++ wire_payload info.key (redacted_payload (unfinished fs) info.op payload)

-- The scan has consumed the bytes that came and has not refused them, and this was written for them.
pub record IsRedacting (role : Role) (limits : Limits) (scan : Scan) (kept : Redactor) (came written : List ℕ)
    : Type 0 where
  pub frames : List Frame
  pub position : Position
  pub rest : List ℕ
  pub followed : HasFollowed role limits scan came frames position rest
  pub rest_written : List ℕ
  pub is_rest : IsRestWritten frames rest position rest_written
  pub whole : written ≡ stream (redacted_frames [] frames) ++ rest_written
  pub keeps : KeepsAt kept frames position
  pub few : kept.done ≤ length came

-- The scan has refused the first of the bytes that came, and this was written for all of them.
pub record HasRefused (role : Role) (limits : Limits) (scan : Scan) (came written : List ℕ) : Type 0 where
  pub refusal : Refusal
  pub reported : refusal_in scan ≡ Some refusal
  pub frames : List Frame
  pub position : Position
  pub rest : List ℕ
  pub seen : List ℕ
  pub later : List ℕ
  pub came_is : came ≡ seen ++ later
  pub has_scanned : HasScanned role limits scan seen frames rest position
  pub refused : (more : List ℕ) → IsRefused role limits (seen ++ more) frames refusal.offset refusal.reason
  pub seen_written : List ℕ
  pub written_is : written ≡ seen_written ++ zeros_for later
  pub is_redaction : (more : List ℕ) →
      IsRedactionAt role limits (seen ++ more) frames (Refused refusal) (seen_written ++ zeros_for more)

-- Either of these.
abbrev pub HasRedacted : Role → Limits → Scan → Redactor → List ℕ → List ℕ → Type 0
HasRedacted role limits scan kept came written =
    IsRedacting role limits scan kept came written ⊎ HasRefused role limits scan came written

-- Some bytes came, or none, and this many more are within the limit.
pub record IsRunningFor (n : ℕ) (scan : Scan) (kept : Redactor) : Type 0 where
  pub role : Role
  pub limits : Limits
  pub came : List ℕ
  pub written : List ℕ
  pub has_redacted : HasRedacted role limits scan kept came written
  pub within : length came + n ≤ limits.input

-- Whatever came before, this is written for the first n bytes of the chunk.
abbrev pub RedactsOn : Scan → Redactor → Scan → Redactor → List ℕ → List ℕ → ℕ → Type 0
RedactsOn scan kept next next_kept chunk after n =
    (role : Role) (limits : Limits) (came written : List ℕ) → HasRedacted role limits scan kept came written →
    HasRedacted role limits next next_kept (came ++ take n chunk) (written ++ take n after)
