-- Whether a stream has a Close, and in which line it ends.
use Rattle.std.specs.Prelude.{ℕ, nat_lt, Bool, true, false, Option, None, Some, if◌then◌else◌, List}
use Rattle.wsn_wire.specs.declared.endpoint.Role.{Role, TheVariants.{Client, Server}}
use Rattle.wsn_wire.specs.Frame.{Frame}
use Rattle.wsn_rules.specs.Limits.{Limits}
use Rattle.wsn_rules.specs.AfterClose.{EndsWithClose}
use Rattle.wsn_rules.specs.Accepted.{IsAccepted}
use Rattle.wsn_rules.specs.Entries.{Entry}
use Rattle.wsn_rules.specs.Sides.{sent}
use Rattle.wsn_rules.specs.ClosingHandshake.{ClosesIn}

-- The stream has no Close.
abbrev pub IsUnclosed : Role → Limits → List ℕ → Type 0
IsUnclosed role limits stream = (fs : List Frame) → IsAccepted role limits stream fs → EndsWithClose fs → ⊥

-- Whether the stream has a Close.
abbrev pub IsClosedBy : Role → Limits → List ℕ → Bool → Type 0
IsClosedBy role limits stream true = (fs : List Frame) × IsAccepted role limits stream fs × EndsWithClose fs
IsClosedBy role limits stream false = IsUnclosed role limits stream

-- The line in which the Close ends, if there is one.
abbrev pub IsCloseLine : Role → Limits → List Entry → Option ℕ → Type 0
IsCloseLine role limits given (Some line) = ClosesIn role limits given line
IsCloseLine role limits given None = IsUnclosed role limits (sent role given)

-- The line that is noted once more bytes came, in this line: one that was noted before stays.
abbrev pub noted_line : Option ℕ → ℕ → Bool → Option ℕ
noted_line (Some known) line closed = Some known
noted_line None line closed = if closed then Some line else None

-- The endpoint with the earlier line, given the lines in which the client's Close and the server's Close end.
abbrev pub earlier_of : Option ℕ → Option ℕ → Option Role
earlier_of None None = None
earlier_of (Some client) None = Some Client
earlier_of None (Some server) = Some Server
earlier_of (Some client) (Some server) = if nat_lt client server then Some Client else Some Server
