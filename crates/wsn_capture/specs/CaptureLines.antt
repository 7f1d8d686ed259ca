-- What the state of a capture's lines says of the lines that were accepted.
use Rattle.std.specs.Prelude.{◌≡◌, ℕ, ◌+◌, ◌-◌, ◌<◌, ◌≤◌, ⊤, Option, None, IsSome, Ok, List, ◌∷◌, [], ◌++◌, length}
use Rattle.wsn_wire.specs.declared.endpoint.Role.{Role, TheVariants.{Client, Server}}
use Rattle.wsn_wire.specs.Frame.{Frame}
use Rattle.wsn_rules.specs.declared.verdict.Verdict.{Verdict, TheVariants.{Refused}}
use Rattle.wsn_rules.specs.Limits.{Limits}
use Rattle.wsn_rules.specs.Verdict.{IsVerdict}
use Rattle.wsn_rules.specs.Entries.{Entry, without_cr}
use Rattle.wsn_rules.specs.Entries.Entry.{Bytes}
use Rattle.wsn_rules.specs.Sides.{sent}
use Rattle.wsn_capture.specs.declared.capture_lines.CaptureLines.{CaptureLines}
use Rattle.wsn_capture.specs.declared.capture_lines.SentBytes.{SentBytes}
use Rattle.wsn_capture.specs.declared.refused_line.RefusedLine.{RefusedLine}
use Rattle.wsn_capture.specs.declared.line_form.LineEntry.{LineEntry}
use Rattle.wsn_capture.specs.declared.line_form.LineEntry.TheVariants as entries
use Rattle.wsn_capture.specs.LineFaults.{AreAcceptedLines, line_most}
use Rattle.wsn_capture.specs.SideTexts.{lines_giving, text_entry}
use Rattle.wsn_capture.specs.RefusedLines.{IsKeptOf, IsRefusedLine}
use Rattle.wsn_capture.specs.CloseLines.{IsCloseLine}

-- The number of lines accepted.
abbrev pub count_of : CaptureLines → ℕ
count_of lines = lines.before.count

-- What is kept of the bytes that an endpoint sent.
abbrev pub sent_by : Role → CaptureLines → SentBytes
sent_by Client lines = lines.client
sent_by Server lines = lines.server

-- The same lines, with less room: so much less as an entry has bytes, for its endpoint.
abbrev pub with_room_less : LineEntry → CaptureLines → CaptureLines
with_room_less (entries.Bytes Client count) lines =
    record lines { client = record lines.client { room = lines.client.room - count } }
with_room_less (entries.Bytes Server count) lines =
    record lines { server = record lines.server { room = lines.server.room - count } }
with_room_less entry lines = lines

-- There is room for an entry's bytes.
abbrev pub FitsRoom : CaptureLines → LineEntry → Type 0
FitsRoom lines (entries.Bytes role count) = count ≤ (sent_by role lines).room
FitsRoom lines entry = ⊤

-- There is less room than an entry has bytes.
abbrev pub ExceedsRoom : CaptureLines → LineEntry → Type 0
ExceedsRoom lines (entries.Bytes role count) = (sent_by role lines).room < count
ExceedsRoom lines entry = ⊥

-- These lines were accepted, in this order, and gave these entries.
pub record HasAccepted (limits : Limits) (accepted : CaptureLines) (lines : List (List ℕ)) (given : List Entry) : Type 0 where
  pub taken : AreAcceptedLines limits lines given
  pub before : accepted.before ≡ lines_giving given
  pub input : (role : Role) → (sent_by role accepted).input ≡ limits.input
  pub room : (role : Role) → (sent_by role accepted).room + length (sent role given) ≡ limits.input

-- The lines are noted in which both endpoints' Closes end, or the offending bytes of their streams came.
abbrev pub HasNotedCloses : Limits → CaptureLines → List Entry → Type 0
HasNotedCloses limits noted given = (role : Role) →
    IsCloseLine role limits given ((sent_by role noted).close_line) × IsRefusedLine role limits given ((sent_by role noted).refused)

-- After `accept` and before `note`: the same of these entries and one more, whose line isn't noted yet if it has bytes.
abbrev pub HasNotedUpTo : Limits → CaptureLines → List Entry → Entry → Type 0
HasNotedUpTo limits noted given (Bytes role bytes) = HasNotedCloses limits noted given
HasNotedUpTo limits noted given entry = HasNotedCloses limits noted (given ++ entry ∷ [])

-- This is the verdict on an endpoint's stream.
abbrev pub IsVerdictOnSide : Role → Limits → List Entry → Verdict → Type 0
IsVerdictOnSide role limits given verdict = (fs : List Frame) × IsVerdict role limits (sent role given) fs verdict

-- ---- the line with the offending byte

-- What is kept once a refusal at this offset is known after this line: what was kept before it, or else what is kept of
-- the line.
abbrev pub IsNotedLine : SentBytes → List ℕ → ℕ → Option RefusedLine → Type 0
IsNotedLine old line offset new =
    (IsSome old.refused → new ≡ old.refused)
    × (old.refused ≡ None → (role : Role) (bytes : List ℕ) → length (without_cr line) ≤ line_most
    → text_entry (without_cr line) ≡ Ok (Bytes role bytes) → length bytes + old.room ≤ old.input
    → IsKeptOf (old.input - old.room - length bytes) bytes offset new)

-- The same, by the verdict: without a refusal nothing new is kept.
abbrev pub IsNotedRefusal : SentBytes → List ℕ → Verdict → Option RefusedLine → Type 0
IsNotedRefusal old line (Refused refusal) new = IsNotedLine old line refusal.offset new
IsNotedRefusal old line verdict new = new ≡ old.refused
