-- How a connection closed: the report on a capture, on each stream and on both together. RFC 6455 sections 5.5.1, 7.1
-- and 7.4.1.
use Rattle.std.specs.Prelude.{◌≡◌, ℕ, suc, ◌<◌, ◌≤◌, ◌⊎◌, ◌==◌, Bool, true, false, Option, None, Some, List, length, take}
use Rattle.wsn_wire.specs.declared.endpoint.Role.{Role, TheVariants.{Client, Server}}
use Rattle.wsn_wire.specs.Frame.{Frame, stream}
use Rattle.wsn_rules.specs.Limits.{Limits}
use Rattle.wsn_rules.specs.AfterClose.{EndsWithClose}
use Rattle.wsn_rules.specs.Accepted.{IsAccepted}
use Rattle.wsn_rules.specs.declared.closing_handshake.Side.{Side, TheVariants.{Closed, Refused, Ended, Cut, Running}}
use Rattle.wsn_rules.specs.declared.closing_handshake.Outcome.{Outcome, TheVariants.{Failed, Clean, Complete, Abnormal, Half, Live}}
use Rattle.wsn_rules.specs.declared.closing_handshake.Report.{Report}
use Rattle.wsn_rules.specs.Entries.{Entry, AreEntries}
use Rattle.wsn_rules.specs.Sides.{sent, has_ended, IsSide}

-- ---- which Close was first

-- The other endpoint.
abbrev pub other_endpoint : Role → Role
other_endpoint Client = Server
other_endpoint Server = Client

-- The last byte of the endpoint's Close is in the line with this index: before it, fewer of the endpoint's bytes have
-- come than its frames up to the Close have; with it, at least that number.
pub record ClosesIn (role : Role) (limits : Limits) (entries : List Entry) (line : ℕ) : Type 0 where
  pub frames : List Frame
  pub accepted : IsAccepted role limits (sent role entries) frames
  pub closes : EndsWithClose frames
  pub before : length (sent role (take line entries)) < length (stream frames)
  pub following : length (stream frames) ≤ length (sent role (take (suc line) entries))

-- Of the endpoints that sent a Close, the one whose Close was complete in an earlier line; none if neither did.
abbrev pub IsFirst : Limits → List Entry → Option Role → Type 0
IsFirst limits entries (Some role) =
    (line : ℕ) × ClosesIn role limits entries line
    × ((other : ℕ) → ClosesIn (other_endpoint role) limits entries other → line < other)
IsFirst limits entries None = (role : Role) (line : ℕ) → ClosesIn role limits entries line → ⊥

-- ---- whether both Closes have the same code

-- Both codes are the same, or there are none.
abbrev pub is_same_code : Option ℕ → Option ℕ → Bool
is_same_code None None = true
is_same_code (Some code) (Some other) = code == other
is_same_code code other = false

-- [5.5.1] Whether both Closes have the same code, or both none; none unless both endpoints sent a Close.
abbrev pub echo_of : Side → Side → Option Bool
echo_of (Closed code) (Closed other) = Some (is_same_code code other)
echo_of client server = None

-- ---- the status codes

-- [7.1.5, 7.4.1] The status code that the other endpoint sees: 1005 for a Close without a code, 1006 without a Close,
-- and none while more may come. 1006 for a refused stream is a rule of this project.
abbrev pub seen_of : Side → Option ℕ
seen_of (Closed (Some code)) = Some code
seen_of (Closed None) = Some 1005
seen_of (Refused refusal) = Some 1006
seen_of Ended = Some 1006
seen_of Cut = Some 1006
seen_of Running = None

-- ---- how the connection closed

-- The stream is refused.
abbrev pub IsRefusedSide : Side → Type 0
IsRefusedSide (Refused refusal) = Unit {0}
IsRefusedSide side = ⊥

-- The stream has a Close.
abbrev pub IsClosedSide : Side → Type 0
IsClosedSide (Closed code) = Unit {0}
IsClosedSide side = ⊥

-- The stream ended without a Close.
abbrev pub IsEndedEarly : Side → Type 0
IsEndedEarly Ended = Unit {0}
IsEndedEarly Cut = Unit {0}
IsEndedEarly side = ⊥

-- The outcomes in order of precedence.
abbrev pub outcome_order : Outcome → ℕ
outcome_order Failed = 0
outcome_order Clean = 1
outcome_order Complete = 2
outcome_order Abnormal = 3
outcome_order Half = 4
outcome_order Live = 5

-- The outcome applies to what became of the two streams, whatever other outcomes apply.
abbrev pub OutcomeFits : Side → Side → Bool → Bool → Outcome → Type 0
OutcomeFits client server client_ended server_ended Failed = IsRefusedSide client ⊎ IsRefusedSide server
OutcomeFits client server client_ended server_ended Clean =
    IsClosedSide client × IsClosedSide server × (client_ended ≡ true) × (server_ended ≡ true)
OutcomeFits client server client_ended server_ended Complete = IsClosedSide client × IsClosedSide server
OutcomeFits client server client_ended server_ended Abnormal = IsEndedEarly client ⊎ IsEndedEarly server
OutcomeFits client server client_ended server_ended Half = IsClosedSide client ⊎ IsClosedSide server
OutcomeFits client server client_ended server_ended Live = Unit {0}

-- Of the outcomes that apply, this one is the first.
pub record IsOutcome (client server : Side) (client_ended server_ended : Bool) (outcome : Outcome) : Type 0 where
  pub fits : OutcomeFits client server client_ended server_ended outcome
  pub first :
      (other : Outcome) → OutcomeFits client server client_ended server_ended other
      → outcome_order outcome ≤ outcome_order other

-- ---- the report

-- The report on lines with these entries.
pub record IsReportOf (limits : Limits) (entries : List Entry) (report : Report) : Type 0 where
  pub client : IsSide Client limits (sent Client entries) (has_ended Client entries) report.client
  pub server : IsSide Server limits (sent Server entries) (has_ended Server entries) report.server
  pub first : IsFirst limits entries report.first
  pub echo : report.echo ≡ echo_of report.client report.server
  pub client_sees : report.client_sees ≡ seen_of report.server
  pub server_sees : report.server_sees ≡ seen_of report.client
  pub outcome :
      IsOutcome report.client report.server (has_ended Client entries) (has_ended Server entries) report.outcome

-- The report on these lines.
pub record IsReport (limits : Limits) (lines : List (List ℕ)) (report : Report) : Type 0 where
  pub entries : List Entry
  pub given : AreEntries lines entries
  pub is : IsReportOf limits entries report

-- Both lists of lines have the same bytes of each endpoint, however they are split into lines, and the same end marks.
pub record SendAlike (lines others : List (List ℕ)) : Type 0 where
  pub entries : List Entry
  pub other_entries : List Entry
  pub given : AreEntries lines entries
  pub other_given : AreEntries others other_entries
  pub bytes : (role : Role) → sent role entries ≡ sent role other_entries
  pub marks : (role : Role) → has_ended role entries ≡ has_ended role other_entries
