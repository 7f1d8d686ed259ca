-- What is kept of the event that begins at an offset, while a scan takes the parts of frames.
use Rattle.std.specs.Prelude.{◌≡◌, ℕ, ◌+◌, ◌^◌, ◌<◌, ◌≤◌, ◌↔◌, ◌⊎◌, nat_lt, nat_le, Bool, true, false, IfSome, Option, None, Some, Result, Ok, Err, List, [], ◌∷◌, ◌++◌, length, take, if◌then◌else◌}
use Rattle.wsn_io.specs.Transfer.{Outgoing, IsWritten, IsPartlyWritten, IsWrittenBut}
use Rattle.wsn_io.specs.declared.stop.Stop.{Stop}
use Rattle.wsn_io.specs.declared.stop.Stop.TheVariants as stop
use Rattle.wsn_wire.specs.declared.endpoint.Role.{Role}
use Rattle.wsn_wire.specs.declared.opcode.Op.TheVariants.{Continue, Text, Binary}
use Rattle.wsn_wire.specs.Frame.{Frame, IsKey, is_control, stream}
use Rattle.wsn_rules.specs.declared.head_info.HeadInfo.{HeadInfo}
use Rattle.wsn_rules.specs.declared.verdict.Refusal.{Refusal}
use Rattle.wsn_rules.specs.declared.verdict.Verdict.{Verdict, TheVariants.{Accepted, Cut, Refused}}
use Rattle.wsn_rules.specs.Limits.{Limits}
use Rattle.wsn_rules.specs.Group.{unfinished, IsOpen, first_op}
use Rattle.wsn_rules.specs.ShownStream.{open_offset, event_offset, frame_so_far}
use Rattle.wsn_rules.specs.Verdict.{IsRefused}
use Rattle.wsn_scan.specs.declared.scan.Scan.{Scan}
use Rattle.wsn_scan.specs.Positions.{Position, BetweenFrames, InFrame}
use Rattle.wsn_scan.specs.FollowedScans.{HasFollowed}
use Rattle.wsn_parts.specs.declared.answer.EventStart.{EventStart}
use Rattle.wsn_parts.specs.declared.answer.Payload.{Payload, TheVariants.{Whole, Unfinished, Inside, Head, Nothing}}
use Rattle.wsn_parts.specs.declared.event_at.EventAt.{EventAt}
use Rattle.wsn_parts.specs.EventsAt.{IsWholeAt, IsBegunAt, EndBefore, IsUnfinishedAt, IsInHeadAt, IsAfterAll, IsInsideAt, EndsEvent, IsElsewhere}
use Rattle.wsn_parts.specs.Payloads.{IsPayloadInFront, IsPartOf}

-- The opcode and the offset of the first frame of the open message are kept, if one is open.
abbrev pub KeepsOpen : EventAt → List Frame → Type 0
KeepsOpen kept fs = IsOpen fs → (kept.message.offset ≡ open_offset fs) × (kept.message.op ≡ first_op (unfinished fs))

-- So are those of the message to which the data frame f belongs.
abbrev pub KeepsJoined : EventAt → List Frame → Frame → Type 0
KeepsJoined kept fs f =
    (kept.message.offset ≡ open_offset fs) × (kept.message.op ≡ first_op (unfinished fs ++ f ∷ []))

-- Between frames the open message is kept. In a frame: the same in a control, and of a data frame its message; and
-- whether the frame belongs to the event that begins at the offset.
abbrev pub KeepsFrame : EventAt → List Frame → Position → ℕ → Type 0
KeepsFrame kept fs BetweenFrames at = KeepsOpen kept fs × (kept.own ≡ false)
KeepsFrame kept fs (InFrame info part) at =
    (is_control info.op ≡ true → KeepsOpen kept fs)
    × (is_control info.op ≡ false → KeepsJoined kept fs (frame_so_far info part))
    × ((kept.own ≡ true) ↔ (event_offset fs (frame_so_far info part) ≡ at))

-- The offset at which the next frame begins; none in a frame.
abbrev pub next_at : List Frame → Position → Option ℕ
next_at fs BetweenFrames = Some (length (stream fs))
next_at fs (InFrame info part) = None

-- Whether the event that begins at the offset has begun, and what has come of its payload.
abbrev pub HasBegunAt : Bool → List Frame → Position → ℕ → List ℕ → Type 0
HasBegunAt true fs position at payload = IsBegunAt fs position at payload
HasBegunAt false fs position at payload = EndBefore fs position at × (payload ≡ [])

-- After these frames and at this position, all of that is kept, and this is the event's payload so far.
pub record KeepsEventAt (kept : EventAt) (at : ℕ) (fs : List Frame) (position : Position) (payload : List ℕ) : Type 0 where
  pub sought : kept.at ≡ at
  pub frame : KeepsFrame kept fs position at
  pub next : kept.next ≡ next_at fs position
  pub begun : HasBegunAt kept.begun fs position at payload

-- A frame with this head may begin after the frames: it continues an open message, or begins one if none is open. Its
-- fields can be encoded.
pub record MayBegin (fs : List Frame) (info : HeadInfo) : Type 0 where
  pub continues : info.op ≡ Continue → IsOpen fs
  pub begins : (info.op ≡ Text) ⊎ (info.op ≡ Binary) → unfinished fs ≡ []
  pub offset : info.offset ≡ length (stream fs)
  pub few : info.offset ≤ 2 ^ 40
  pub size : info.len < 2 ^ 63
  pub key : IfSome info.key IsKey

-- After the frames fs a frame begins, and this is kept; or the offset is in it, and its event begins elsewhere.
abbrev pub BeginsFrame : EventAt → ℕ → List Frame → HeadInfo → List ℕ → Option EventStart → Type 0
BeginsFrame kept at fs info payload None = KeepsEventAt kept at fs (InFrame info []) payload
BeginsFrame kept at fs info payload (Some start) = IsElsewhere fs info at start × (payload ≡ [])

-- After the frames fs the frame f has ended. It ends the event; or it doesn't, and this is kept.
abbrev pub EndsFrame : EventAt → ℕ → List Frame → Frame → List ℕ → Bool → Type 0
EndsFrame kept at fs f payload true = EndsEvent fs f at payload
EndsFrame kept at fs f payload false = KeepsEventAt kept at (fs ++ f ∷ []) BetweenFrames payload

-- More payload of the frame that has begun was written, if it belongs to the event.
abbrev pub own_part : EventAt → List ℕ → List ℕ
own_part kept part = if kept.own then part else []

-- What a part of a frame after the frames fs says, which leads to these frames and this position: this is kept, and more
-- of the payload was written; or the event is complete; or the offset is in a frame of another event. After a failed
-- write, what would be kept, or that the event would be complete.
abbrev pub TakesPart : EventAt → ℕ → List Frame → HeadInfo → List Frame → Position → List ℕ → Outgoing → Outgoing →
    Result (Option Payload) Stop → Type 0
TakesPart kept at fs info frames position payload before after (Ok None) =
    (more : List ℕ) × KeepsEventAt kept at frames position (payload ++ more) × IsWritten before after more
TakesPart kept at fs info frames position payload before after (Ok (Some Whole)) =
    (more : List ℕ) × (f : Frame) × (frames ≡ fs ++ f ∷ []) × EndsEvent fs f at (payload ++ more)
    × IsWritten before after more
TakesPart kept at fs info frames position payload before after (Ok (Some (Inside start))) =
    IsElsewhere fs info at start × (payload ≡ []) × (after ≡ before)
TakesPart kept at fs info frames position payload before after (Ok (Some answer)) = ⊥
TakesPart kept at fs info frames position payload before after (Err stopped) =
    (stopped ≡ stop.Write)
    × ((more : List ℕ) × IsPartlyWritten before after more
    × (IsBegunAt frames position at (payload ++ more)
    ⊎ ((f : Frame) × (frames ≡ fs ++ f ∷ []) × EndsEvent fs f at (payload ++ more))))

-- ---- where the stream has its verdict

-- The verdict takes account of the byte at this offset: it is in a frame or in a head, and isn't after the offending
-- byte.
abbrev pub is_judged : Verdict → ℕ → Bool
is_judged (Accepted summary) at = nat_lt at summary.used
is_judged (Cut summary) at = nat_lt at summary.used
is_judged (Refused refusal) at = nat_le at refusal.offset

-- The answer of an offset at which no event has begun: in the head of the next frame, or after all that came.
abbrev pub answer_without_event : Option ℕ → Bool → Verdict → Payload
answer_without_event (Some start) true verdict = Head start verdict
answer_without_event next judged verdict = Nothing verdict

-- The answer where the stream has this verdict.
abbrev pub ended_answer : EventAt → Verdict → Payload
ended_answer kept verdict =
    if kept.begun then Unfinished verdict
    else answer_without_event kept.next (is_judged verdict kept.at) verdict

-- ---- over the bytes

-- The scan has consumed the bytes that came and has not refused them. Of the event this is kept, and what has come of
-- its payload was written.
pub record HasSought (role : Role) (limits : Limits) (at : ℕ) (scan : Scan) (kept : EventAt) (came : List ℕ)
    (first now : Outgoing) : Type 0 where
  pub frames : List Frame
  pub position : Position
  pub rest : List ℕ
  pub followed : HasFollowed role limits scan came frames position rest
  pub payload : List ℕ
  pub keeps : KeepsEventAt kept at frames position payload
  pub written : IsWritten first now payload

-- Some bytes came, or none.
pub record IsSeeking (scan : Scan) (kept : EventAt) (now : Outgoing) : Type 0 where
  pub role : Role
  pub limits : Limits
  pub at : ℕ
  pub came : List ℕ
  pub first : Outgoing
  pub has_sought : HasSought role limits at scan kept came first now

-- The verdict is a refusal at the last of these bytes, whatever follows.
pub record IsRefusedHere (role : Role) (limits : Limits) (bytes : List ℕ) (verdict : Verdict) : Type 0 where
  pub refusal : Refusal
  pub is : verdict ≡ Refused refusal
  pub frames : List Frame
  pub refused : (later : List ℕ) → IsRefused role limits (bytes ++ later) frames refusal.offset refusal.reason
  pub offset : refusal.offset + 1 ≡ length bytes

-- The answer is right for these bytes, whatever follows, and this was written.
abbrev pub IsAnsweredAt : Role → Limits → ℕ → List ℕ → Outgoing → Outgoing → Payload → Type 0
IsAnsweredAt role limits at bytes before after Whole =
    (payload : List ℕ) × IsWholeAt role limits bytes at payload × IsWritten before after payload
IsAnsweredAt role limits at bytes before after (Unfinished verdict) =
    IsRefusedHere role limits bytes verdict
    × ((payload : List ℕ) × ((later : List ℕ) → IsUnfinishedAt role limits (bytes ++ later) verdict at payload)
    × IsWritten before after payload)
IsAnsweredAt role limits at bytes before after (Inside start) =
    IsInsideAt role limits bytes at start × IsWritten before after []
IsAnsweredAt role limits at bytes before after (Head start verdict) =
    IsRefusedHere role limits bytes verdict
    × ((later : List ℕ) → IsInHeadAt role limits (bytes ++ later) verdict at start) × IsWritten before after []
IsAnsweredAt role limits at bytes before after (Nothing verdict) =
    IsRefusedHere role limits bytes verdict
    × ((later : List ℕ) → IsAfterAll role limits (bytes ++ later) verdict at) × IsWritten before after []

-- The result of a call that consumed n bytes, after which a part gave this.
abbrev pub IsStepOf : ℕ → Result (Option Payload) Stop → Result (ℕ × Option Payload) Stop → Type 0
IsStepOf n (Ok answer) given = given ≡ Ok (n, answer)
IsStepOf n (Err stopped) given = given ≡ Err stopped

-- Of the bytes and then the first n of this chunk, an answer; or what is kept. After a failed write, a prefix of the
-- payload in some of them was written, and all that came before the chunk.
abbrev pub SeeksOn : Role → Limits → ℕ → Scan → EventAt → List ℕ → List ℕ → Outgoing → Outgoing →
    Result (ℕ × Option Payload) Stop → Type 0
SeeksOn role limits at scan kept came chunk first now (Ok (n, None)) =
    HasSought role limits at scan kept (came ++ take n chunk) first now
SeeksOn role limits at scan kept came chunk first now (Ok (n, Some answer)) =
    (length (came ++ take n chunk) ≤ limits.input)
    × IsAnsweredAt role limits at (came ++ take n chunk) first now answer
SeeksOn role limits at scan kept came chunk first now (Err stopped) =
    (stopped ≡ stop.Write)
    × ((payload : List ℕ) × IsPayloadInFront role limits (came ++ chunk) at payload × IsPartlyWritten first now payload)
    × IsWrittenBut (length chunk) (IsPartOf role limits at) (came ++ chunk) first now

-- The same of a whole chunk, or of its bytes up to the answer.
abbrev pub SeeksThrough : Role → Limits → ℕ → Scan → EventAt → List ℕ → List ℕ → Outgoing → Outgoing →
    Result (Option Payload) Stop → Type 0
SeeksThrough role limits at scan kept came chunk first now (Ok None) =
    HasSought role limits at scan kept (came ++ chunk) first now
SeeksThrough role limits at scan kept came chunk first now (Ok (Some answer)) =
    (n : ℕ) × (n ≤ length chunk)
    × SeeksOn role limits at scan kept came chunk first now (Ok (n, Some answer))
SeeksThrough role limits at scan kept came chunk first now (Err stopped) =
    SeeksOn role limits at scan kept came chunk first now (Err stopped)
