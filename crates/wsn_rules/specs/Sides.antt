-- The stream that each endpoint sent, and what became of it. RFC 6455 sections 7.1.4 to 7.1.7.
use Rattle.std.specs.Prelude.{◌≡◌, ℕ, Bool, true, false, Option, None, Some, List, [], if◌then◌else◌}
use Rattle.std.specs.List.{list_any, flat_map}
use Rattle.wsn_wire.specs.declared.endpoint.Role.{Role, TheVariants.{Client, Server}}
use Rattle.wsn_wire.specs.Frame.{Frame}
use Rattle.wsn_rules.specs.declared.verdict.Verdict.{Verdict}
use Rattle.wsn_rules.specs.declared.verdict.Verdict.TheVariants as verdicts
use Rattle.wsn_rules.specs.Limits.{Limits}
use Rattle.wsn_rules.specs.Verdict.{IsVerdict}
use Rattle.wsn_rules.specs.declared.closing_handshake.Side.{Side, TheVariants.{Closed, Refused, Ended, Cut, Running}}
use Rattle.wsn_rules.specs.Entries.{Entry}
use Rattle.wsn_rules.specs.Entries.Entry.{Bytes, Mark}

-- The bytes of an endpoint in an entry.
abbrev pub bytes_in : Role → Entry → List ℕ
bytes_in Client (Bytes Client bytes) = bytes
bytes_in Server (Bytes Server bytes) = bytes
bytes_in role entry = []

-- The entry is the endpoint's end mark.
abbrev pub is_mark : Role → Entry → Bool
is_mark Client (Mark Client) = true
is_mark Server (Mark Server) = true
is_mark role entry = false

-- The stream that an endpoint sent: its bytes, joined.
abbrev pub sent : Role → List Entry → List ℕ
sent role = flat_map (bytes_in role)

-- The stream has its end mark.
abbrev pub has_ended : Role → List Entry → Bool
has_ended role = list_any (is_mark role)

-- What became of a stream without a Close and without a refusal: `side` if it has ended, otherwise it is running.
abbrev pub ended_as : Side → Bool → Side
ended_as side ended = if ended then side else Running

-- What became of an accepted stream, by its close and whether it has ended.
abbrev pub accepted_side : Option (Option ℕ) → Bool → Side
accepted_side (Some code) ended = Closed code
accepted_side None ended = ended_as Ended ended

-- What became of a stream, by its verdict and whether it has ended.
abbrev pub side_of : Verdict → Bool → Side
side_of (verdicts.Accepted summary) ended = accepted_side summary.close ended
side_of (verdicts.Cut summary) ended = ended_as Cut ended
side_of (verdicts.Refused refusal) ended = Refused refusal

-- What became of the stream that this endpoint sent.
abbrev pub IsSide : Role → Limits → List ℕ → Bool → Side → Type 0
IsSide role limits stream ended side =
    (fs : List Frame) × (verdict : Verdict) × IsVerdict role limits stream fs verdict × (side ≡ side_of verdict ended)
