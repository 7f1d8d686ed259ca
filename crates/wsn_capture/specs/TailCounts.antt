-- How many bytes an endpoint sent after its Close. RFC 6455 section 5.5.1.
use Rattle.std.specs.Prelude.{◌≡◌, ℕ, ◌+◌, ◌⊎◌, List, length}
use Rattle.wsn_wire.specs.declared.endpoint.Role.{Role, TheVariants.{Client, Server}}
use Rattle.wsn_wire.specs.Frame.{Frame, stream}
use Rattle.wsn_rules.specs.Limits.{Limits}
use Rattle.wsn_rules.specs.AfterClose.{EndsWithClose}
use Rattle.wsn_rules.specs.Accepted.{IsAccepted}
use Rattle.wsn_rules.specs.Entries.{Entry}
use Rattle.wsn_rules.specs.Sides.{sent}
use Rattle.wsn_capture.specs.declared.tail_counts.Tails.{Tails}
use Rattle.wsn_capture.specs.CloseLines.{IsUnclosed}

-- The number of bytes after the stream's Close: all that came but for its frames up to the Close; 0 without a Close.
abbrev pub HasTail : Role → Limits → List ℕ → ℕ → Type 0
HasTail role limits bytes count =
    ((fs : List Frame) × IsAccepted role limits bytes fs × EndsWithClose fs × (length bytes ≡ length (stream fs) + count))
    ⊎ (IsUnclosed role limits bytes × (count ≡ 0))

-- The numbers of bytes after both Closes.
abbrev pub AreTails : Limits → List Entry → Tails → Type 0
AreTails limits entries tails =
    HasTail Client limits (sent Client entries) tails.client × HasTail Server limits (sent Server entries) tails.server
