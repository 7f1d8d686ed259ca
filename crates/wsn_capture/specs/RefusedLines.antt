-- The lines in which the offending bytes of refused streams came.
use Rattle.std.specs.Prelude.{◌≡◌, ℕ, ◌+◌, ◌-◌, ◌<◌, ◌≤◌, ◌⊎◌, Option, None, Some, List, ◌∷◌, ◌++◌, length, take, drop, replicate}
use Rattle.wsn_wire.specs.declared.endpoint.Role.{Role, TheVariants.{Client, Server}}
use Rattle.wsn_wire.specs.Frame.{Frame}
use Rattle.wsn_rules.specs.declared.verdict.Refusal.{Refusal}
use Rattle.wsn_rules.specs.declared.verdict.Verdict.TheVariants.{Refused}
use Rattle.wsn_rules.specs.Limits.{Limits}
use Rattle.wsn_rules.specs.Verdict.{IsUnrefused, IsVerdict}
use Rattle.wsn_rules.specs.Entries.{Entry}
use Rattle.wsn_rules.specs.Entries.Entry.{Bytes}
use Rattle.wsn_rules.specs.Sides.{sent}
use Rattle.wsn_capture.specs.declared.refused_line.RefusedLine.{RefusedLine}
use Rattle.wsn_capture.specs.declared.refused_line.RefusedLines.{RefusedLines}

-- the bytes of a line that are kept: its first 256, or all of them if there are fewer
abbrev pub kept_bytes : RefusedLine → List ℕ
kept_bytes line = take line.count line.first

-- This is kept of a line with these bytes, which begin at the offset `start`: the byte at `offset`, and the
-- line's first 256 bytes, or all of them and zeros.
pub record IsKept (start : ℕ) (bytes : List ℕ) (offset : ℕ) (line : RefusedLine) : Type 0 where
  pub starts : line.start ≡ start
  pub after_start : start ≤ offset
  pub offending : (later : List ℕ) × (drop (offset - start) bytes ≡ line.byte ∷ later)
  pub counted : line.count ≡ length (take 256 bytes)
  pub firsts : line.first ≡ take 256 (bytes ++ replicate 256 0)

-- The same, if the byte at the offset is one of these; otherwise nothing is kept.
abbrev pub IsKeptOf : ℕ → List ℕ → ℕ → Option RefusedLine → Type 0
IsKeptOf start bytes offset (Some line) = IsKept start bytes offset line
IsKeptOf start bytes offset None = (offset < start) ⊎ (start + length bytes ≤ offset)

-- The stream is refused, and this is kept of the line with its offending byte.
pub record HasRefusedLine (role : Role) (limits : Limits) (given : List Entry) (line : RefusedLine) : Type 0 where
  pub frames : List Frame
  pub refusal : Refusal
  pub refused : IsVerdict role limits (sent role given) frames (Refused refusal)
  pub before : List Entry
  pub bytes : List ℕ
  pub after : List Entry
  pub whole : given ≡ before ++ Bytes role bytes ∷ after
  pub kept : IsKept (length (sent role before)) bytes refusal.offset line

-- The line with the offending byte of an endpoint's stream, if it is refused.
abbrev pub IsRefusedLine : Role → Limits → List Entry → Option RefusedLine → Type 0
IsRefusedLine role limits given (Some line) = HasRefusedLine role limits given line
IsRefusedLine role limits given None = IsUnrefused role limits (sent role given)

-- The lines with the offending bytes of both streams.
abbrev pub AreRefusedLines : Limits → List Entry → RefusedLines → Type 0
AreRefusedLines limits given lines =
    IsRefusedLine Client limits given lines.client × IsRefusedLine Server limits given lines.server
