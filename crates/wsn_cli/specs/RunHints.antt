-- Which hint a run over a capture has, by its answer.
use Rattle.std.specs.Prelude.{◌≡◌, ◌≢◌, ◌⊎◌, ℕ, Option, None, Some, List, ◌∷◌, [], take}
use Rattle.wsn_wire.specs.declared.endpoint.Role.{Role, TheVariants.{Client, Server}}
use Rattle.wsn_rules.specs.declared.verdict.Refusal.{Refusal}
use Rattle.wsn_rules.specs.declared.verdict.Verdict.TheVariants.{Refused}
use Rattle.wsn_rules.specs.declared.closing_handshake.Side.{Side}
use Rattle.wsn_rules.specs.declared.closing_handshake.Side.TheVariants as sides
use Rattle.wsn_capture.specs.declared.refused_line.RefusedLines.{RefusedLines}
use Rattle.wsn_command.specs.declared.job.Job.{Job, TheVariants.{Closing, Show}}
use Rattle.wsn_command.specs.declared.answered.Answer.{Answer, TheVariants.{Verdict, Report, FaultyLine, Stopped}}
use Rattle.wsn_hint.specs.declared.hint.Hint.{Hint, TheVariants.{WrongHandshake}}
use Rattle.wsn_hint.specs.declared.refused_sides.RefusedSides.{RefusedSides}
use Rattle.wsn_hint.specs.Hints.{HintFits, IsFirstFit, capture_hints}
use Rattle.wsn_hint.specs.Accusations.{IsAccusingHint}
use Rattle.wsn_hint.specs.SideHints.{FitsHandshake, FitsTail, IsSidesHint, tail_hints}
use Rattle.wsn_cli.specs.Requests.{job_limits}

-- why a side of a report is refused, if it is
abbrev pub refused_side : Side → Option Refusal
refused_side (sides.Refused refusal) = Some refusal
refused_side side = None

-- no refused side
abbrev pub none_refused : RefusedSides
none_refused = record { client = None; server = None }

-- why the sides are refused, of those that were read: by a report both, by a verdict the one that was read
abbrev pub refused_sides : Option Role → Answer → RefusedSides
refused_sides side (Report read) =
    record { client = refused_side read.report.client; server = refused_side read.report.server }
refused_sides (Some Client) (Verdict (Refused refusal)) = record { client = Some refusal; server = None }
refused_sides (Some Server) (Verdict (Refused refusal)) = record { client = None; server = Some refusal }
refused_sides side answer = none_refused

-- the lines with the offending bytes of the sides, which a report has
abbrev pub refused_lines : Answer → RefusedLines
refused_lines (Report read) = read.refused
refused_lines answer = record { client = None; server = None }

-- Where no side is refused, the hint may be that the handshake's answer is wrong.
abbrev pub IsHandshakeHint : List ℕ → RefusedSides → Option Hint → Type 0
IsHandshakeHint text refused result =
    ((refused ≡ none_refused) × IsFirstFit (FitsHandshake text) (WrongHandshake ∷ []) result)
    ⊎ (¬ (refused ≡ none_refused) × (result ≡ None))

-- The result is the first hint, or without one what later ones are.
abbrev pub IsOrElse : Option Hint → (Option Hint → Type 0) → Option Hint → Type 0
IsOrElse (Some hint) later result = result ≡ Some hint
IsOrElse None later result = later result

-- The hint on what a report says of a Close: at bytes after it, if the command gives that hint; where there are none, on a
-- Close that accuses the other endpoint.
abbrev pub IsCloseHint : Answer → (Option Hint → Option Hint) → Option Hint → Type 0
IsCloseHint (Report read) given result = (tail : Option Hint) × IsFirstFit (FitsTail read.tails) tail_hints tail
    × (((tail ≡ None) × IsAccusingHint read.report result) ⊎ ((tail ≢ None) × (result ≡ given tail)))
IsCloseHint answer given result = result ≡ None

-- The hint on a report without one on its sides: on the handshake, or on a Close. `show` lists the bytes after a Close, and
-- has no hint at them.
abbrev pub IsReportHint : {A : Type 0} → Job A → List ℕ → RefusedSides → Answer → Option Hint → Type 0
IsReportHint (Show limits style) text refused answer result = (handshake : Option Hint)
    × IsHandshakeHint text refused handshake
    × IsOrElse handshake (IsCloseHint answer (λ tail. None)) result
IsReportHint (Closing limits format) text refused answer result = (handshake : Option Hint)
    × IsHandshakeHint text refused handshake
    × IsOrElse handshake (IsCloseHint answer (λ tail. tail)) result
IsReportHint job text refused answer result = result ≡ None

-- The hint on a capture whose lines are accepted: on its sides, or on the report.
abbrev pub IsLinesHint : {A : Type 0} → Job A → Option Role → List ℕ → Answer → Option Hint → Type 0
IsLinesHint job side text answer result =
    (of_sides : Option Hint) × IsSidesHint (job_limits job) text (refused_sides side answer) (refused_lines answer) of_sides
    × IsOrElse of_sides (IsReportHint job text (refused_sides side answer) answer) result

-- The hint on a capture, by the answer: what a file with a malformed line looks like by its first 16 bytes; none after
-- any other stop.
abbrev pub IsCaptureHint : {A : Type 0} → Job A → Option Role → List ℕ → Answer → Option Hint → Type 0
IsCaptureHint job side text FaultyLine result = IsFirstFit (HintFits (job_limits job) (take 16 text)) capture_hints result
IsCaptureHint job side text Stopped result = result ≡ None
IsCaptureHint job side text answer result = IsLinesHint job side text answer result
