-- Who ended a connection of which a stream ended without a Close. RFC 6455 sections 7.1.1 and 7.1.4 to 7.1.7.
use Rattle.std.specs.Prelude.{◌≡◌, ℕ, ◌⊎◌, ◌↔◌, IsTrue, Option, None, Some, List, [], ◌∷◌, codes, slice_get}
use Rattle.std.specs.List.{Any, flat_map}
use Rattle.wsn_wire.specs.declared.endpoint.Role.{Role, TheVariants.{Client, Server}}
use Rattle.wsn_rules.specs.Entries.{Entry, without_cr}
use Rattle.wsn_rules.specs.Entries.Entry.{Mark}
use Rattle.wsn_rules.specs.declared.closing_handshake.Report.{Report}
use Rattle.wsn_rules.specs.ClosingHandshake.{IsEndedEarly}
use Rattle.wsn_capture.specs.declared.ended_by.EndedBy.{EndedBy}

-- The endpoint whose end mark the entry is, if it is one.
abbrev pub marks_in : Entry → List Role
marks_in (Mark role) = role ∷ []
marks_in entry = []

-- The endpoints that have an end mark, in the order of their marks.
abbrev pub end_marks : List Entry → List Role
end_marks = flat_map marks_in

-- The comment that says that an endpoint reset the connection.
abbrev pub reset_comment : Role → List ℕ
reset_comment Client = codes "# reset by the client"
reset_comment Server = codes "# reset by the server"

-- One of the lines is this comment. A line may end with CR.
abbrev pub SayReset : List (List ℕ) → Role → Type 0
SayReset lines role = Any (λ line. without_cr line ≡ reset_comment role) lines

-- A stream ended without a Close.
abbrev pub HasEndedEarly : Report → Type 0
HasEndedEarly report = IsEndedEarly report.client ⊎ IsEndedEarly report.server

-- What is said of the end of a capture with these lines, entries and report. If a stream ended without a Close: the
-- endpoint with the first end mark, and whether the lines say that it reset the connection. Otherwise nothing.
abbrev pub IsEndedBy : List (List ℕ) → List Entry → Report → Option EndedBy → Type 0
IsEndedBy lines entries report None = HasEndedEarly report → ⊥
IsEndedBy lines entries report (Some by) =
    HasEndedEarly report × (slice_get (end_marks entries) 0 ≡ Some by.role) × (IsTrue by.reset ↔ SayReset lines by.role)
