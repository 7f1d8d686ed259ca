-- A reader of frames: what it has taken of the bytes that it has read, and what its buffer holds.
use Rattle.std.specs.Prelude.{◌≡◌, ℕ, ◌+◌, ◌≤◌, None, List, [], ◌++◌, length}
use Rattle.std.specs.List.{slice_range}
use Rattle.wsn_wire.specs.declared.endpoint.Role.{Role}
use Rattle.wsn_wire.specs.Frame.{Frame, IsBytes}
use Rattle.wsn_rules.specs.Limits.{Limits}
use Rattle.wsn_rules.specs.Group.{unfinished}
use Rattle.wsn_rules.specs.Meaning.{MeantEvent, meaning}
use Rattle.wsn_rules.specs.NormalForm.{normal_form}
use Rattle.wsn_scan.specs.declared.frame_reader.FrameReader.{FrameReader}
use Rattle.wsn_scan.specs.Positions.{Position, BetweenFrames}
use Rattle.wsn_scan.specs.ChunkReaders.{HasCounted}
use Rattle.wsn_scan.specs.Judging.{chunk_size}
use Rattle.wsn_scan.specs.Scans.{HasScanned, room_of, refusal_in}

-- ---- what the buffer holds

-- the bytes that the scan has not consumed
abbrev pub unread : FrameReader → List ℕ
unread reader = slice_range reader.buffer reader.at reader.end

-- the payload that was taken last
abbrev pub held_payload : FrameReader → List ℕ
held_payload reader = slice_range reader.buffer reader.from reader.at

-- Of the bytes that came within the limit, the scan has consumed these, and the buffer holds the others. At most one
-- byte past the limit came.
pub record IsBuffered (limits : Limits) (reader : FrameReader) (came scanned : List ℕ) : Type 0 where
  pub past : List ℕ
  pub whole : came ≡ (scanned ++ unread reader) ++ past
  pub counted : HasCounted limits reader.chunks (scanned ++ unread reader) past
  pub few : length came ≤ limits.input + 1
  pub small : reader.end + length past ≤ chunk_size
  pub in_bytes : IsBytes came

-- ---- the reader

-- It has read the bytes that came and has not refused. It has taken these frames, and what the position says of the
-- next.
pub record HasTaken (role : Role) (limits : Limits) (reader : FrameReader) (came : List ℕ) (fs : List Frame)
    (at : Position) : Type 0 where
  pub scanned : List ℕ
  pub since : List ℕ
  pub has_scanned : HasScanned role limits reader.scan scanned fs since at
  pub unrefused : refusal_in reader.scan ≡ None
  pub buffered : IsBuffered limits reader came scanned

-- It has read some bytes, or none, and has returned neither a verdict nor a stop.
pub record IsReading (reader : FrameReader) : Type 0 where
  pub role : Role
  pub limits : Limits
  pub came : List ℕ
  pub frames : List Frame
  pub position : Position
  pub has_taken : HasTaken role limits reader came frames position

-- an upper bound on the number of parts that may still come
abbrev pub parts_ahead : FrameReader → ℕ
parts_ahead reader = room_of reader.scan

-- Between frames and with no message open, the reader has taken more whole frames. They end the events whose normal form
-- it holds, and leave no message open.
pub record TakesRun (role : Role) (limits : Limits) (new : FrameReader) (came : List ℕ) (fs : List Frame)
    (at : Position) : Type 0 where
  pub between : at ≡ BetweenFrames
  pub none_before : unfinished fs ≡ []
  pub frames : List Frame
  pub events : List MeantEvent
  pub has_taken : HasTaken role limits new came frames BetweenFrames
  pub none_open : unfinished frames ≡ []
  pub means : meaning frames ≡ meaning fs ++ events
  pub normal_is : held_payload new ≡ normal_form role events
