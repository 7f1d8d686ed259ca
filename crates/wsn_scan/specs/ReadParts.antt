-- What a reader of frames returns, and what that says of the bytes that came.
use Rattle.std.specs.Prelude.{◌≡◌, ℕ, ◌+◌, ◌≤◌, true, false, Option, None, Some, Result, Ok, Err, List, ◌++◌, length, take, ◌<◌}
use Rattle.wsn_wire.specs.declared.endpoint.Role.{Role}
use Rattle.wsn_wire.specs.declared.opcode.Kind.{Kind}
use Rattle.wsn_wire.specs.Frame.{Frame, stream}
use Rattle.wsn_io.specs.Transfer.{Incoming, IsConsumed}
use Rattle.wsn_io.specs.declared.stop.Stop.{Stop}
use Rattle.wsn_rules.specs.declared.verdict.Verdict.{Verdict}
use Rattle.wsn_rules.specs.Limits.{Limits}
use Rattle.wsn_rules.specs.Heads.{heads_of, AreHeads}
use Rattle.wsn_rules.specs.Verdict.{IsVerdict, IsRefused}
use Rattle.wsn_scan.specs.declared.frame_reader.FrameReader.{FrameReader}
use Rattle.wsn_scan.specs.declared.part.Part.{Part}
use Rattle.wsn_scan.specs.Judging.{IsReached, IsStopped, chunk_size}
use Rattle.wsn_scan.specs.Positions.{Position, begun_at}
use Rattle.wsn_scan.specs.Parts.{IsPart, IsWholeMessage}
use Rattle.wsn_scan.specs.FrameReaders.{HasTaken, held_payload}
use Rattle.wsn_rules.specs.declared.verdict.Refusal.{Refusal}
use Rattle.wsn_scan.specs.declared.part.Taken.{Taken}
use Rattle.wsn_scan.specs.declared.part.Taken.TheVariants as taken
use Rattle.wsn_scan.specs.Scans.{refusal_in}

-- It takes this part of a frame, whose payload it holds. At most `chunk_size` bytes came after the frame's end, if the
-- part ends it.
pub record ReadsPart (role : Role) (limits : Limits) (reader : FrameReader) (part : Part) (came : List ℕ)
    (fs : List Frame) (at : Position) : Type 0 where
  pub frames : List Frame
  pub position : Position
  pub is_part : IsPart fs at part (held_payload reader) frames position
  pub has_taken : HasTaken role limits reader came frames position
  pub soon : part.ends ≡ true → length came ≤ length (stream frames) + chunk_size

-- It takes a whole message of this kind, whose frame's first byte is at this offset, and holds the message's bytes.
pub record TakesMessage (role : Role) (limits : Limits) (reader : FrameReader) (kind : Kind) (offset : ℕ) (came : List ℕ)
    (fs : List Frame) (at : Position) : Type 0 where
  pub part : Part
  pub whole : IsWholeMessage part kind
  pub offset_is : part.head.offset ≡ offset
  pub takes : ReadsPart role limits reader part came fs at

-- All of these bytes are taken: each whole frame to its end, and each head.
abbrev pub AllTaken : Role → Limits → List ℕ → List Frame → Position → Type 0
AllTaken role limits bytes fs at = AreHeads role limits bytes fs (heads_of fs ++ begun_at at)

-- The verdict on the bytes that came, as a judge reaches it. Each whole frame in them was taken to its end, and each
-- head.
abbrev pub IsJudgedAt : Role → Limits → Incoming → List ℕ → List Frame → Position → Verdict → Type 0
IsJudgedAt role limits new came fs at verdict =
    IsReached role limits new came verdict × IsVerdict role limits came fs verdict × AllTaken role limits came fs at

-- A stop, as a judge's. Of the bytes within the limit, each whole frame was taken to its end, and each head.
abbrev pub IsHaltedAt : Role → Limits → Incoming → List ℕ → List Frame → Position → Stop → Type 0
IsHaltedAt role limits new came fs at halted =
    IsStopped role limits new came halted
    × ((verdict : Verdict) × IsVerdict role limits (take limits.input came) fs verdict)
    × AllTaken role limits (take limits.input came) fs at

-- The result is right for the bytes that came: a part, the verdict or a stop.
abbrev pub IsNextPart : Role → Limits → Incoming → FrameReader → Part → List ℕ → List Frame → Position →
    Result (Option Verdict) Stop → Type 0
IsNextPart role limits new reader part came fs at (Ok None) =
    ReadsPart role limits reader part came fs at × (new.failed ≡ false)
IsNextPart role limits new reader part came fs at (Ok (Some verdict)) = IsJudgedAt role limits new came fs at verdict
IsNextPart role limits new reader part came fs at (Err halted) = IsHaltedAt role limits new came fs at halted

-- A call has read these bytes more, and its result is right for all that came: at most one byte past the limit.
pub record ReadsOn (role : Role) (limits : Limits) (old new : Incoming) (reader : FrameReader) (part : Part)
    (came : List ℕ) (fs : List Frame) (at : Position) (result : Result (Option Verdict) Stop) : Type 0 where
  pub more : List ℕ
  pub consumed : IsConsumed old new more
  pub few : length (came ++ more) ≤ limits.input + 1
  pub next : IsNextPart role limits new reader part (came ++ more) fs at result

-- All bytes that came are scanned.
pub record IsUsed (role : Role) (limits : Limits) (reader : FrameReader) (came : List ℕ) (fs : List Frame)
    (at : Position) : Type 0 where
  pub has_taken : HasTaken role limits reader came fs at
  pub all : reader.at ≡ reader.end

-- The bytes that came are refused, whatever follows. At most `chunk_size` - 1 of them came after the offending byte,
-- and each whole frame was taken to its end, and each head.
pub record IsRefusedBy (role : Role) (limits : Limits) (came : List ℕ) (fs : List Frame) (at : Position)
    (refusal : Refusal) : Type 0 where
  pub refused : (later : List ℕ) → IsRefused role limits (came ++ later) fs refusal.offset refusal.reason
  pub soon : length came ≤ refusal.offset + chunk_size
  pub within : refusal.offset < limits.input
  pub all_taken : AllTaken role limits came fs at

-- The scan has refused, and its refusal is that of the bytes that came.
pub record HasRefused (role : Role) (limits : Limits) (reader : FrameReader) (came : List ℕ) (fs : List Frame)
    (at : Position) : Type 0 where
  pub refusal : Refusal
  pub reported : refusal_in reader.scan ≡ Some refusal
  pub refused_by : IsRefusedBy role limits came fs at refusal

-- What a call of the scan found.
abbrev pub StepsOn : Role → Limits → FrameReader → Part → List ℕ → List Frame → Position → Taken → Type 0
StepsOn role limits reader part came fs at taken.Part = ReadsPart role limits reader part came fs at
StepsOn role limits reader part came fs at taken.Refused = HasRefused role limits reader came fs at
StepsOn role limits reader part came fs at taken.More = IsUsed role limits reader came fs at
StepsOn role limits reader part came fs at taken.Closed = IsUsed role limits reader came fs at

-- A read gave more to scan, or a byte past the limit; or the verdict at the input's end; or a stop.
abbrev pub IsFilledBy : Role → Limits → Incoming → FrameReader → List ℕ → List Frame → Position →
    Result (Option Verdict) Stop → Type 0
IsFilledBy role limits new reader came fs at (Ok None) =
    HasTaken role limits reader came fs at × (new.failed ≡ false)
IsFilledBy role limits new reader came fs at (Ok (Some verdict)) = IsJudgedAt role limits new came fs at verdict
IsFilledBy role limits new reader came fs at (Err halted) = IsHaltedAt role limits new came fs at halted

-- What one read did after all bytes that came were scanned.
pub record IsFilled (role : Role) (limits : Limits) (old new : Incoming) (reader : FrameReader) (came : List ℕ)
    (fs : List Frame) (at : Position) (result : Result (Option Verdict) Stop) : Type 0 where
  pub more : List ℕ
  pub consumed : IsConsumed old new more
  pub few : length (came ++ more) ≤ limits.input + 1
  pub next : IsFilledBy role limits new reader (came ++ more) fs at result
