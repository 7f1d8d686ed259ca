-- The verdict on a stream: accepted, cut, or refused at an offset for a reason. RFC 6455 sections 5 and 7.
use Rattle.std.specs.Prelude.{◌≡◌, ◌≢◌, ℕ, ◌+◌, ◌-◌, ◌<◌, ◌≤◌, ◌⊎◌, List, [], ◌++◌, length, take}
use Rattle.wsn_wire.specs.declared.endpoint.Role.{Role}
use Rattle.wsn_wire.specs.declared.refusal.Reason.{Reason}
use Rattle.wsn_wire.specs.Frame.{Frame, stream}
use Rattle.wsn_wire.specs.ReceivedHead.{HasLayout}
use Rattle.wsn_wire.specs.Refusal.{number_of}
use Rattle.wsn_rules.specs.declared.verdict.Verdict.{Verdict, TheVariants.{Accepted, Cut, Refused}}
use Rattle.wsn_rules.specs.Limits.{Limits}
use Rattle.wsn_rules.specs.Group.{unfinished, IsOpen}
use Rattle.wsn_rules.specs.Lawful.{IsLawful}
use Rattle.wsn_rules.specs.AfterClose.{HasNoClose}
use Rattle.wsn_rules.specs.Accepted.{IsAccepted}
use Rattle.wsn_rules.specs.Evidence.{Evidence}
use Rattle.wsn_rules.specs.Summary.{counted}

-- ---- refused

-- After the frames fs, the next frame's bytes up to the one at this offset are evidence for the reason.
pub record IsEvidentAt (role : Role) (limits : Limits) (bytes : List ℕ) (fs : List Frame) (offset : ℕ) (reason : Reason)
    : Type 0 where
  pub seen : List ℕ
  pub later : List ℕ
  pub whole : bytes ≡ stream fs ++ (seen ++ later)
  pub at_offset : offset + 1 ≡ length (stream fs) + length seen
  pub evidence : Evidence role limits (unfinished fs) reason seen

-- The offset is earlier; or it is the same, and the number of the reason is not greater.
abbrev pub ComesFirst : ℕ → Reason → ℕ → Reason → Type 0
ComesFirst p r offset reason = (p < offset) ⊎ ((p ≡ offset) × (number_of r ≤ number_of reason))

-- After lawful frames without a Close there is evidence for the reason at this offset, and it has precedence over all
-- other evidence.
pub record IsRefused (role : Role) (limits : Limits) (bytes : List ℕ) (fs : List Frame) (offset : ℕ) (reason : Reason)
    : Type 0 where
  pub lawful : IsLawful role limits fs
  pub no_close : HasNoClose fs
  pub is_evident : IsEvidentAt role limits bytes fs offset reason
  pub least : (p : ℕ) (r : Reason) → IsEvidentAt role limits bytes fs p r → ComesFirst offset reason p r

-- The bytes are not refused.
abbrev pub IsUnrefused : Role → Limits → List ℕ → Type 0
IsUnrefused role limits bytes =
    (fs : List Frame) (offset : ℕ) (reason : Reason) → IsRefused role limits bytes fs offset reason → ⊥

-- ---- cut

-- The bytes end inside a frame: with more bytes, at least one, they have the layout of a frame.
abbrev pub EndsWithinFrame : List ℕ → Type 0
EndsWithinFrame rest = (missing : List ℕ) × (missing ≢ []) × HasLayout (rest ++ missing)

-- After lawful frames without a Close, the rest ends inside a frame and is evidence for no refusal; the rest is not
-- empty, or a message is open.
pub record IsCut (role : Role) (limits : Limits) (bytes : List ℕ) (fs : List Frame) : Type 0 where
  pub lawful : IsLawful role limits fs
  pub no_close : HasNoClose fs
  pub rest : List ℕ
  pub whole : bytes ≡ stream fs ++ rest
  pub within : EndsWithinFrame rest
  pub has_no_evidence : (p : ℕ) (r : Reason) → IsEvidentAt role limits bytes fs p r → ⊥
  pub more : (rest ≢ []) ⊎ IsOpen fs

-- ---- the verdict

-- The verdict on the bytes, whose lawful frames are fs. An accepted input is used up to its tail, a cut one completely.
abbrev pub IsVerdict : Role → Limits → List ℕ → List Frame → Verdict → Type 0
IsVerdict role limits bytes fs (Accepted summary) =
    IsAccepted role limits bytes fs × (summary ≡ counted fs (length (stream fs)) (length bytes - length (stream fs)))
IsVerdict role limits bytes fs (Cut summary) =
    IsCut role limits bytes fs × (summary ≡ counted fs (length bytes) 0)
IsVerdict role limits bytes fs (Refused refusal) = IsRefused role limits bytes fs refusal.offset refusal.reason

-- The bytes of which a verdict takes account: up to the offending byte, with it, or all.
abbrev pub judged_bytes : Verdict → List ℕ → List ℕ
judged_bytes (Refused refusal) bytes = take (refusal.offset + 1) bytes
judged_bytes verdict bytes = bytes
