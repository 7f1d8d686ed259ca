-- What a scan has consumed, and what it consumes of one chunk.
use Rattle.std.specs.Prelude.{◌≡◌, ℕ, ◌+◌, ◌≤◌, if◌then◌else◌, Option, None, List, [], ◌∷◌, ◌++◌, length, take}
use Rattle.wsn_wire.specs.declared.endpoint.Role.{Role}
use Rattle.wsn_wire.specs.Frame.{Frame}
use Rattle.wsn_rules.specs.declared.head_info.HeadInfo.{HeadInfo}
use Rattle.wsn_scan.specs.declared.part.Part.{Part}
use Rattle.wsn_scan.specs.declared.part.Taken.{Taken}
use Rattle.wsn_scan.specs.declared.part.Taken.TheVariants as taken
use Rattle.wsn_rules.specs.declared.verdict.Refusal.{Refusal}
use Rattle.wsn_scan.specs.declared.scan.Scan.{Scan}
use Rattle.wsn_rules.specs.Limits.{Limits}
use Rattle.wsn_rules.specs.Heads.{heads_of}
use Rattle.wsn_scan.specs.Positions.{Position, begun_at}
use Rattle.wsn_scan.specs.Scans.{HasScanned, room_of, refusal_in}

-- The scan has consumed these bytes, and taken the frames with these heads.
pub record HasScannedBytes (role : Role) (limits : Limits) (scan : Scan) (bytes : List ℕ) (heads : List HeadInfo)
    : Type 0 where
  pub frames : List Frame
  pub since : List ℕ
  pub position : Position
  pub has_scanned : HasScanned role limits scan bytes frames since position
  pub heads_are : heads ≡ heads_of frames ++ begun_at position

-- the head that a call finds, if it finds one
abbrev pub heads_in : Taken → Part → List HeadInfo
heads_in taken.Part part = if part.begins then part.head ∷ [] else []
heads_in found part = []

-- The scan has consumed some bytes, or none.
pub record IsRunning (scan : Scan) : Type 0 where
  pub role : Role
  pub limits : Limits
  pub bytes : List ℕ
  pub heads : List HeadInfo
  pub taken : HasScannedBytes role limits scan bytes heads

-- Whatever the scan had consumed, it has now consumed the first n bytes of the chunk too, and taken the frames with
-- these heads too.
abbrev pub ConsumesPrefix : Scan → Scan → List ℕ → ℕ → List HeadInfo → Type 0
ConsumesPrefix old new chunk n more =
    (role : Role) (limits : Limits) (bytes : List ℕ) (heads : List HeadInfo) →
    HasScannedBytes role limits old bytes heads →
    HasScannedBytes role limits new (bytes ++ take n chunk) (heads ++ more)

-- The scan has consumed some of the chunk: all of it, unless the scan refuses or has refused. The result is its
-- refusal.
pub record HasFed (old new : Scan) (chunk : List ℕ) (refusal : Option Refusal) : Type 0 where
  pub count : ℕ
  pub within : count ≤ length chunk
  pub room : room_of new + count ≡ room_of old
  pub heads : List HeadInfo
  pub consumes : ConsumesPrefix old new chunk count heads
  pub all : refusal ≡ None → count ≡ length chunk
  pub answered : refusal ≡ refusal_in new
