-- A scan's state, and how it relates to the bytes that the scan has consumed and doesn't keep.
use Rattle.std.specs.Prelude.{◌≡◌, ◌≢◌, true, ℕ, ◌+◌, ◌-◌, ◌<◌, ◌≤◌, ◌↔◌, IfSome, IsSome, Option, None, Some, List, [], ◌∷◌, ◌++◌, length, take, drop}
use Rattle.wsn_wire.specs.declared.endpoint.Role.{Role}
use Rattle.wsn_wire.specs.Frame.{Frame, IsBytes, first_byte, stream}
use Rattle.wsn_frame.specs.declared.kept_message.OpenMessage.{OpenMessage}
use Rattle.wsn_wire.specs.declared.refusal.Reason.{Reason, TheVariants.{TextCut}}
use Rattle.wsn_rules.specs.declared.verdict.Refusal.{Refusal}
use Rattle.wsn_frame.specs.declared.heads.Head.{Head}
use Rattle.wsn_frame.specs.declared.payload_check.PayloadCheck.{PayloadCheck}
use Rattle.wsn_frame.specs.Payloads.{unmasked_by, HoldsPayload}
use Rattle.wsn_scan.specs.declared.part.Part.{Part}
use Rattle.wsn_scan.specs.declared.part.Taken.{Taken}
use Rattle.wsn_scan.specs.declared.part.Taken.TheVariants as taken
use Rattle.wsn_scan.specs.declared.stage.Inside.{Inside}
use Rattle.wsn_scan.specs.declared.stage.Stage.{Stage}
use Rattle.wsn_scan.specs.declared.stage.Stage.TheVariants as stages
use Rattle.wsn_scan.specs.declared.scan.Scan.{Scan}
use Rattle.wsn_rules.specs.declared.verdict.Summary.{Summary}
use Rattle.wsn_rules.specs.declared.verdict.Verdict.{Verdict, TheVariants.{Accepted, Cut, Refused}}
use Rattle.wsn_rules.specs.Limits.{Limits, InRange}
use Rattle.wsn_rules.specs.Group.{unfinished}
use Rattle.wsn_rules.specs.Lawful.{IsLawful}
use Rattle.wsn_rules.specs.AfterClose.{HasNoClose, EndsWithClose}
use Rattle.wsn_rules.specs.Summary.{close_of}
use Rattle.wsn_rules.specs.Verdict.{IsRefused}
use Rattle.wsn_frame.specs.KeptMessages.{IsOpenMessage}
use Rattle.wsn_frame.specs.PartialHeads.{IsHeadSoFar, IsHead, info_at, IsEvidentLast}
use Rattle.wsn_rules.specs.Heads.{heads_of, info_of, AreHeads}
use Rattle.wsn_frame.specs.PayloadChecks.{HasChecked}
use Rattle.wsn_frame.specs.Counts.{AreCounts}
use Rattle.wsn_scan.specs.Positions.{Position, BetweenFrames, InFrame, begun_at, IsPayloadPrefix}
use Rattle.wsn_scan.specs.Parts.{Finds, Consumes, ContinuesFrame, unmasked_at}

-- ---- a scan's state

-- Part of the payload came, and was taken unmasked.
pub record IsInPayload (role : Role) (limits : Limits) (group : List Frame) (inside : Inside) (rest payload : List ℕ)
    : Type 0 where
  pub wire : List ℕ
  pub holds : HoldsPayload role limits group inside.head inside.check wire rest
  pub done : inside.done ≡ length wire
  pub short : length wire < inside.head.len
  pub unmasked : payload ≡ unmasked_by inside.head.key 0 wire

-- Whatever follows, the stream is refused at the last of these bytes, and all their heads were taken.
pub record IsRefusedThere (role : Role) (limits : Limits) (refusal : Refusal) (bytes : List ℕ) (fs : List Frame)
    (at : Position) : Type 0 where
  pub refused : (later : List ℕ) → IsRefused role limits (bytes ++ later) fs refusal.offset refusal.reason
  pub offset : refusal.offset + 1 ≡ length bytes
  pub heads : (later : List ℕ) → AreHeads role limits (bytes ++ later) fs (heads_of fs ++ begun_at at)
  pub payload : (head : _) (payload : List ℕ) → at ≡ InFrame head payload → IsPayloadPrefix fs bytes head payload

-- The stage and the position after the whole frames fs and the bytes that came since.
abbrev pub IsAt : Role → Limits → Stage → List ℕ → List Frame → List ℕ → Position → Type 0
IsAt role limits stages.Between bytes fs rest at = HasNoClose fs × (rest ≡ []) × (at ≡ BetweenFrames)
IsAt role limits (stages.Head begun) bytes fs rest at =
    HasNoClose fs × ((rest ≡ begun.items) × (rest ≢ []) × IsHeadSoFar role limits (unfinished fs) rest) × (at ≡ BetweenFrames)
IsAt role limits (stages.Payload inside) bytes fs rest at =
    HasNoClose fs × ((payload : List ℕ) × IsInPayload role limits (unfinished fs) inside rest payload
    × (at ≡ InFrame (info_at (length (stream fs)) inside.head) payload))
IsAt role limits (stages.Closed code) bytes fs rest at =
    EndsWithClose fs × (close_of fs ≡ Some code) × (at ≡ BetweenFrames)
IsAt role limits (stages.Refused refusal) bytes fs rest at = IsRefusedThere role limits refusal bytes fs at

-- how many more bytes a scan accepts
abbrev pub room_of : Scan → ℕ
room_of scan = scan.room

-- how many bytes a scan has consumed
abbrev pub taken_of : Scan → ℕ
taken_of scan = scan.context.limits.input - scan.room

-- All the bytes that a scan has consumed are in whole frames.
abbrev pub HasNoRest : Scan → Type 0
HasNoRest scan = scan.used ≡ taken_of scan

-- At any stage, the scan has consumed these bytes: whole lawful frames, and a rest that came since.
pub record HasConsumed (role : Role) (limits : Limits) (scan : Scan) (bytes : List ℕ) (fs : List Frame) (rest : List ℕ)
    : Type 0 where
  pub sender : scan.context.role ≡ role
  pub under : scan.context.limits ≡ limits
  pub in_range : InRange limits
  pub lawful : IsLawful role limits fs
  pub whole : bytes ≡ stream fs ++ rest
  pub in_bytes : IsBytes bytes
  pub room : scan.room + length bytes ≡ limits.input
  pub used : scan.used ≡ length (stream fs)
  pub counts : AreCounts scan.counts fs
  pub message : IsOpenMessage scan.context.message (unfinished fs)

-- The same at this stage, and at this position.
pub record HasScannedAt (role : Role) (limits : Limits) (scan : Scan) (stage : Stage) (bytes : List ℕ) (fs : List Frame)
    (rest : List ℕ) (at : Position) : Type 0 where
  pub has_consumed : HasConsumed role limits scan bytes fs rest
  pub is_at : IsAt role limits stage bytes fs rest at

-- The scan has consumed these bytes: whole lawful frames, and a rest that came since. It has taken these frames, and what
-- the position says of the next.
abbrev pub HasScanned : Role → Limits → Scan → List ℕ → List Frame → List ℕ → Position → Type 0
HasScanned role limits scan bytes fs rest at = HasScannedAt role limits scan scan.stage bytes fs rest at

-- the refusal that a stage has reported, if it has
abbrev pub refusal_at : Stage → Option Refusal
refusal_at (stages.Refused refusal) = Some refusal
refusal_at stage = None

-- the refusal that a scan has reported, if it has
abbrev pub refusal_in : Scan → Option Refusal
refusal_in scan = refusal_at scan.stage

-- ---- its verdict

-- the size in bytes of the open message, if one is open
abbrev pub size_of_message : Option OpenMessage → Option ℕ
size_of_message None = None
size_of_message (Some m) = Some m.size

-- what a scan has counted
abbrev pub summary_of : Scan → ℕ → ℕ → Option (Option ℕ) → Summary
summary_of scan used tail close = record {
  used = used;
  tail = tail;
  unfinished = size_of_message scan.context.message;
  frames = scan.counts.frames;
  messages = scan.counts.messages;
  pings = scan.counts.pings;
  pongs = scan.counts.pongs;
  close = close;
}

-- the verdict between frames: cut if a message is open, otherwise accepted
abbrev pub verdict_between : Scan → Option OpenMessage → Verdict
verdict_between scan None = Accepted (summary_of scan (taken_of scan) 0 None)
verdict_between scan (Some m) = Cut (summary_of scan (taken_of scan) 0 None)

-- the refusal that a verdict is, if it is one
abbrev pub refusal_judged : Verdict → Option Refusal
refusal_judged (Refused refusal) = Some refusal
refusal_judged verdict = None

-- the refusal of a scan that consumes `count` bytes more, the last of which is the offending byte
abbrev pub refusal_of : Scan → ℕ → Reason → Refusal
refusal_of scan count reason = record { offset = scan.context.limits.input - (scan.room - count) - 1; reason = reason }

-- ---- a call

-- The scan has consumed these bytes, and what it has taken of them is what the call finds.
pub record IsReachedBy (role : Role) (limits : Limits) (new : Scan) (bytes : List ℕ)
    (finds : List Frame → Position → Type 0) : Type 0 where
  pub frames : List Frame
  pub since : List ℕ
  pub position : Position
  pub has_scanned : HasScanned role limits new bytes frames since position
  pub found : finds frames position

-- Whatever the scan has consumed, from this stage it consumes the first n bytes of the chunk, and this is what it finds.
-- `after` is the chunk after the call.
abbrev pub AdvancesFrom : Stage → Scan → Scan → List ℕ → List ℕ → ℕ → Taken → Part → Type 0
AdvancesFrom stage old new chunk after n taken part =
    (role : Role) (limits : Limits) (bytes rest : List ℕ) (fs : List Frame) (at : Position) → IsBytes chunk →
    HasScannedAt role limits old stage bytes fs rest at →
    IsReachedBy role limits new (bytes ++ take n chunk) (Finds taken part (drop part.start (take n after)) fs at)
    × Consumes taken part (length chunk) n

-- The first `count` bytes of the chunk are consumed, no more than there are, and those after them don't change.
abbrev pub ConsumesFirst : Scan → Scan → List ℕ → List ℕ → ℕ → Type 0
ConsumesFirst old new chunk after count =
    (count ≤ length chunk) × (drop count after ≡ drop count chunk) × (room_of new + count ≡ room_of old)

-- They have a part of a frame. The bytes before its payload don't change, and if the frame ends, the scan has no rest.
abbrev pub HasPart : Scan → List ℕ → List ℕ → ℕ → Part → Type 0
HasPart new chunk after count part =
    (part.start ≤ count) × (take part.start after ≡ take part.start chunk) × (part.ends ≡ true → HasNoRest new)

-- A call consumes these bytes, which have a part of a frame, and refuses nothing.
abbrev pub TakesPart : Scan → Scan → List ℕ → List ℕ → ℕ → Part → Type 0
TakesPart old new chunk after count part =
    ConsumesFirst old new chunk after count × HasPart new chunk after count part × (refusal_in new ≡ None)

-- A call consumes these bytes, which have a part of a frame if it says so, and it refuses if it says so.
abbrev pub TakesFound : Scan → Scan → List ℕ → List ℕ → ℕ → Taken → Part → Type 0
TakesFound old new chunk after count found part =
    ConsumesFirst old new chunk after count × (found ≡ taken.Part → HasPart new chunk after count part)
    × (IsSome (refusal_in new) ↔ (found ≡ taken.Refused))

-- A call of a scan: the scan and the chunk before and after it, how many bytes it consumed, and what it found.
pub record ScanCall : Type 0 where
  pub before : Scan
  pub after : Scan
  pub chunk : List ℕ
  pub chunk_after : List ℕ
  pub count : ℕ
  pub found : Taken
  pub part : Part

-- Whatever was consumed before it, the call consumes the first bytes of the chunk, and this is what it finds.
abbrev pub IsAdvance : ScanCall → Type 0
IsAdvance call = AdvancesFrom call.before.stage call.before call.after call.chunk call.chunk_after call.count call.found
    call.part

-- What `next` says of a call: how the scan advances, whether it refuses, and that a refusal is reported again.
pub record IsAnswered (call : ScanCall) : Type 0 where
  pub advances : IsAdvance call
  pub reported : IsSome (refusal_in call.after) ↔ (call.found ≡ taken.Refused)
  pub again : IfSome (refusal_in call.before) (λ _. (call.found ≡ taken.Refused) × (call.count ≡ 0))

-- Whatever the scan has consumed at this stage, the first n bytes of the chunk were unmasked if they are payload.
abbrev pub Unmasks : Stage → Scan → List ℕ → List ℕ → ℕ → Type 0
Unmasks stage old chunk after n =
    (role : Role) (limits : Limits) (bytes rest : List ℕ) (fs : List Frame) (at : Position) →
    HasScannedAt role limits old stage bytes fs rest at → take n after ≡ unmasked_at at (take n chunk)

-- ---- the parts of a call

-- Since the last whole frame these first bytes of a head came, or none. The scan goes on with the chunk: it takes a part
-- of the frame, or refuses, or keeps more of the head.
abbrev pub ContinuesHead : Scan → Scan → List ℕ → List ℕ → List ℕ → ℕ → Taken → Part → Type 0
ContinuesHead old new begun chunk after n taken part =
    (role : Role) (limits : Limits) (bytes : List ℕ) (fs : List Frame) → IsBytes chunk →
    HasConsumed role limits old bytes fs begun → HasNoClose fs → IsHeadSoFar role limits (unfinished fs) begun →
    0 < length begun + length chunk → IsReachedBy role limits new (bytes ++ take n chunk)
    (Finds taken part (drop part.start (take n after)) fs BetweenFrames) × Consumes taken part (length chunk) n

-- The first `start` bytes of the chunk end this head, and the scan takes a part of its frame, or refuses.
abbrev pub BeginsFrame : Scan → Scan → ℕ → Head → List ℕ → List ℕ → ℕ → Taken → Part → Type 0
BeginsFrame old new start head chunk after n taken part =
    (role : Role) (limits : Limits) (bytes rest : List ℕ) (fs : List Frame) → IsBytes chunk →
    HasConsumed role limits old bytes fs rest → HasNoClose fs → 0 < start
    → IsHead role limits (unfinished fs) head (rest ++ take start chunk) →
    IsReachedBy role limits new (bytes ++ take n chunk)
    (Finds taken part (drop part.start (take n after)) fs BetweenFrames) × Consumes taken part (length chunk) n

-- The same, and it takes a part.
abbrev pub TakesFirstPart : Scan → Scan → ℕ → Head → List ℕ → List ℕ → ℕ → Part → Type 0
TakesFirstPart old new start head chunk after n part = BeginsFrame old new start head chunk after n taken.Part part

-- The scan consumes `count` bytes more, the last of this head or of its frame's payload, of which `done` bytes came, and
-- takes this part of the frame.
abbrev pub AddsPart : Scan → Scan → Head → PayloadCheck → ℕ → ℕ → Part → Type 0
AddsPart old new head check done count part =
    (role : Role) (limits : Limits) (bytes rest last wire before payload : List ℕ) (fs : List Frame) →
    HasConsumed role limits old bytes fs rest → HasNoClose fs → IsBytes last → length last ≡ count
    → HoldsPayload role limits (unfinished fs) head check wire (rest ++ last)
    → done ≡ length wire → length wire ≤ head.len → before ++ payload ≡ unmasked_by head.key 0 wire →
    IsReachedBy role limits new (bytes ++ last) (ContinuesFrame fs before part payload)

-- A frame with this head and this payload has ended: the scan has one whole frame more.
pub record HasEnded (role : Role) (limits : Limits) (new : Scan) (bytes : List ℕ) (fs : List Frame) (head : Head)
    (payload : List ℕ) : Type 0 where
  pub frame : Frame
  pub head_is : info_at (length (stream fs)) head ≡ info_of (length (stream fs)) frame
  pub payload_is : frame.payload ≡ payload
  pub has_scanned : HasScanned role limits new bytes (fs ++ frame ∷ []) [] BetweenFrames

-- This head came last, and all of its frame's payload, which is valid: the frame has ended.
abbrev pub EndsFrame : Scan → Scan → Head → PayloadCheck → Type 0
EndsFrame old new head check =
    (role : Role) (limits : Limits) (bytes rest wire : List ℕ) (fs : List Frame) →
    HasConsumed role limits old bytes fs rest → HasNoClose fs
    → HoldsPayload role limits (unfinished fs) head check wire rest → length wire ≡ head.len →
    HasEnded role limits new bytes fs head (unmasked_by head.key 0 wire)

-- The stage after a frame whose payload was checked with this result.
abbrev pub IsStageAfter : PayloadCheck → Stage → Type 0
IsStageAfter check stage =
    (role : Role) (limits : Limits) (bytes : List ℕ) (fs : List Frame) (f : Frame) →
    IsLawful role limits (fs ++ f ∷ []) → HasNoClose fs
    → HasChecked (unfinished fs) (first_byte f.fin f.op) check f.payload →
    IsAt role limits stage bytes (fs ++ f ∷ []) [] BetweenFrames

-- An empty frame with this head, after the open message, ends a text within a character.
abbrev pub IsCutAt : Option OpenMessage → Head → Type 0
IsCutAt message head =
    (role : Role) (limits : Limits) (group : List Frame) (bytes : List ℕ) → IsOpenMessage message group →
    IsHead role limits group head bytes → IsEvidentLast role limits group TextCut bytes
