-- The form of the examples: an abbreviated verdict, or a meaning.
use Rattle.std.specs.Prelude.{◌≡◌, ℕ, Option, None, List}
use Rattle.wsn_wire.specs.declared.endpoint.Role.{Role}
use Rattle.wsn_wire.specs.declared.refusal.Reason.{Reason}
use Rattle.wsn_wire.specs.declared.length_encoding.Lengths.TheVariants.{Shortest}
use Rattle.wsn_wire.specs.Frame.{Frame}
use Rattle.wsn_rules.specs.declared.verdict.Verdict.{Verdict, TheVariants.{Accepted, Cut, Refused}}
use Rattle.wsn_rules.specs.Limits.{Limits}
use Rattle.wsn_rules.specs.Meaning.{MeantEvent, meaning}
use Rattle.wsn_rules.specs.Verdict.{IsVerdict}

-- Refused at an offset for a reason; cut with the bytes used; accepted with the bytes used, the tail, and the size of
-- the open message; or accepted with the numbers of frames, messages, pings and pongs, and the close.
pub data ShortVerdict : Type 0 where
  RefusedAt : ℕ → Reason → ShortVerdict
  CutAt : ℕ → ShortVerdict
  AcceptedTo : ℕ → ℕ → Option ℕ → ShortVerdict
  Counts : ℕ → ℕ → ℕ → ℕ → Option (Option ℕ) → ShortVerdict

-- The abbreviated verdict agrees with the verdict.
abbrev pub Abbreviates : ShortVerdict → Verdict → Type 0
Abbreviates (RefusedAt offset reason) (Refused refusal) = (refusal.offset ≡ offset) × (refusal.reason ≡ reason)
Abbreviates (CutAt used) (Cut summary) = summary.used ≡ used
Abbreviates (AcceptedTo used tail unfinished) (Accepted summary) =
    (summary.used ≡ used) × (summary.tail ≡ tail) × (summary.unfinished ≡ unfinished)
Abbreviates (Counts frames messages pings pongs close) (Accepted summary) =
    (summary.frames ≡ frames) × (summary.messages ≡ messages) × (summary.pings ≡ pings) × (summary.pongs ≡ pongs)
    × (summary.close ≡ close)
Abbreviates short verdict = ⊥

-- The verdict on the bytes, abbreviated.
pub record Judged (role : Role) (limits : Limits) (bytes : List ℕ) (short : ShortVerdict) : Type 0 where
  pub frames : List Frame
  pub verdict : Verdict
  pub is : IsVerdict role limits bytes frames verdict
  pub reports : Abbreviates short verdict

-- The bytes mean these events, whatever their verdict.
pub record Means (role : Role) (limits : Limits) (bytes : List ℕ) (events : List MeantEvent) : Type 0 where
  pub frames : List Frame
  pub verdict : Verdict
  pub is : IsVerdict role limits bytes frames verdict
  pub means : meaning frames ≡ events

-- The greatest limits on bytes, with any number of frames and only the shortest encoding of a length.
abbrev pub greatest : Limits
greatest = record { message = 16777216; input = 1099511627776; frames = None; lengths = Shortest }
