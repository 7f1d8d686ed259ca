-- What a capture's state says of the lines that it has accepted.
use Rattle.std.specs.Prelude.{◌≡◌, ℕ, None, List, [], ◌++◌}
use Rattle.wsn_wire.specs.declared.endpoint.Role.{Role, TheVariants.{Client, Server}}
use Rattle.wsn_rules.specs.declared.head_info.HeadInfo.{HeadInfo}
use Rattle.wsn_rules.specs.Limits.{Limits}
use Rattle.wsn_rules.specs.Entries.{Entry}
use Rattle.wsn_rules.specs.Sides.{sent}
use Rattle.wsn_scan.specs.declared.scan.Scan.{Scan}
use Rattle.wsn_scan.specs.Scans.{refusal_in}
use Rattle.wsn_scan.specs.Feeding.{HasScannedBytes}
use Rattle.wsn_capture.specs.declared.capture_lines.CaptureLines.{CaptureLines}
use Rattle.wsn_capture.specs.CaptureLines.{HasAccepted, HasNotedCloses}

-- What a contract sees of a capture: its lines, and the scan of each endpoint's stream.
pub record Captured : Type 0 where
  pub lines : CaptureLines
  pub client : Scan
  pub server : Scan

-- These bytes have come. The scan has consumed all of them, or those up to a refusal.
pub record HasStreamed (role : Role) (limits : Limits) (scan : Scan) (bytes : List ℕ) : Type 0 where
  pub came : List ℕ
  pub following : List ℕ
  pub heads : List HeadInfo
  pub whole : bytes ≡ came ++ following
  pub taken : HasScannedBytes role limits scan came heads
  pub all : refusal_in scan ≡ None → following ≡ []

-- The capture has accepted these lines, in this order.
pub record HasAcceptedLines (limits : Limits) (capture : Captured) (lines : List (List ℕ)) : Type 0 where
  pub entries : List Entry
  pub accepted : HasAccepted limits capture.lines lines entries
  pub noted : HasNotedCloses limits capture.lines entries
  pub client : HasStreamed Client limits capture.client (sent Client entries)
  pub server : HasStreamed Server limits capture.server (sent Server entries)

-- The capture has accepted some lines, or none.
pub record IsCapturing (capture : Captured) : Type 0 where
  pub limits : Limits
  pub lines : List (List ℕ)
  pub has : HasAcceptedLines limits capture lines
