-- What redacting an input answers, and what was written.
use Rattle.std.specs.Prelude.{◌≡◌, ℕ, ◌+◌, ◌<◌, ◌≤◌, ⊤, false, true, Result, Ok, Err, List, length, take}
use Rattle.std.specs.Io.KnownBytes.{IsAtEnd}
use Rattle.wsn_io.specs.Transfer.{Incoming, Outgoing, IsReceived, IsWritten, IsPartlyWritten, IsWrittenBut}
use Rattle.wsn_io.specs.declared.stop.Stop.{Stop}
use Rattle.wsn_io.specs.declared.stop.Stop.TheVariants as stop
use Rattle.wsn_wire.specs.declared.endpoint.Role.{Role}
use Rattle.wsn_wire.specs.Frame.{Frame}
use Rattle.wsn_rules.specs.declared.verdict.Verdict.{Verdict}
use Rattle.wsn_rules.specs.Limits.{Limits}
use Rattle.wsn_rules.specs.Verdict.{IsVerdict}
use Rattle.wsn_scan.specs.Judging.{chunk_size}
use Rattle.wsn_redact.specs.Redaction.{IsRedactionAt, IsRedaction}

-- The bytes have this verdict, and this is their redaction.
abbrev pub IsRedactionWith : Role → Limits → List ℕ → Verdict → List ℕ → Type 0
IsRedactionWith role limits bytes verdict redacted =
    (fs : List Frame) × IsVerdict role limits bytes fs verdict × IsRedactionAt role limits bytes fs verdict redacted

-- The redaction of these bytes was written.
abbrev pub IsRedactionWritten : Role → Limits → List ℕ → Outgoing → Outgoing → Type 0
IsRedactionWritten role limits bytes before after =
    (redacted : List ℕ) × IsRedaction role limits bytes redacted × IsWritten before after redacted

-- The answer is right for the bytes that came, and this was written. With a verdict: it is that of the whole input, which
-- ended within the limit, and all of its redaction. After a failed write: a prefix of the redaction of the bytes within
-- the limit. At any other stop: all of that.
abbrev pub IsRedactAnswer :
    Role → Limits → Incoming → List ℕ → Outgoing → Outgoing → Result Verdict Stop → Type 0
IsRedactAnswer role limits new came before after (Ok verdict) =
    ((redacted : List ℕ) × IsRedactionWith role limits came verdict redacted × IsWritten before after redacted)
    × IsAtEnd new.remaining × (length came ≤ limits.input) × (new.failed ≡ false)
IsRedactAnswer role limits new came before after (Err stop.Write) =
    ((redacted : List ℕ) × IsRedaction role limits (take limits.input came) redacted
    × IsPartlyWritten before after redacted) × (new.failed ≡ false)
IsRedactAnswer role limits new came before after (Err stop.InputLimit) =
    IsRedactionWritten role limits (take limits.input came) before after
    × (length came ≡ limits.input + 1) × (new.failed ≡ false)
IsRedactAnswer role limits new came before after (Err stop.Read) =
    IsRedactionWritten role limits came before after × (length came ≤ limits.input) × (new.failed ≡ true)
IsRedactAnswer role limits new came before after (Err stop.Memory) = ⊥

-- These bytes came from the input, at most one past its limit; the answer is right for them, and this was written. After
-- a failed write nothing more was read: the redaction of all but at most the last chunk was written.
pub record IsRedactedInput (role : Role) (limits : Limits) (old new : Incoming) (before after : Outgoing)
    (result : Result Verdict Stop) : Type 0 where
  pub came : List ℕ
  pub received : IsReceived (limits.input + 1) old new came
  pub answer : IsRedactAnswer role limits new came before after result
  pub at_once : result ≡ Err stop.Write → IsWrittenBut chunk_size (IsRedaction role limits) came before after

-- ---- an input whose bytes are known

-- The answer for all bytes of an input. With a verdict, it is theirs, and their redaction was written. At the input limit
-- that of the bytes within it was written. At any other stop this says nothing.
abbrev pub IsRedactedWhole : Role → Limits → List ℕ → Outgoing → Outgoing → Result Verdict Stop → Type 0
IsRedactedWhole role limits all before after (Ok verdict) =
    ((redacted : List ℕ) × IsRedactionWith role limits all verdict redacted × IsWritten before after redacted)
    × (length all ≤ limits.input)
IsRedactedWhole role limits all before after (Err stop.InputLimit) =
    IsRedactionWritten role limits (take limits.input all) before after × (limits.input < length all)
IsRedactedWhole role limits all before after (Err stopped) = ⊤
