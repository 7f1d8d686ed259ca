-- What taking a payload out of a stream answers, what the answer says of the bytes that came, and what was written.
use Rattle.std.specs.Prelude.{◌≡◌, ℕ, ◌+◌, ◌<◌, ◌≤◌, ◌⊎◌, ⊤, false, Result, Ok, Err, List, [], ◌++◌, length, take}
use Rattle.wsn_io.specs.Transfer.{Incoming, Outgoing, IsReceived, IsWritten, IsPartlyWritten, IsWrittenBut}
use Rattle.wsn_io.specs.declared.stop.Stop.{Stop}
use Rattle.wsn_io.specs.declared.stop.Stop.TheVariants as stop
use Rattle.wsn_wire.specs.declared.endpoint.Role.{Role}
use Rattle.wsn_rules.specs.declared.verdict.Verdict.{Verdict}
use Rattle.wsn_rules.specs.Limits.{Limits}
use Rattle.wsn_rules.specs.Verdict.{IsUnrefused}
use Rattle.wsn_scan.specs.Judging.{IsReached, IsStopped, IsWithinLimit, chunk_size}
use Rattle.wsn_parts.specs.declared.answer.Payload.{Payload, TheVariants.{Whole, Unfinished, Inside, Head, Nothing}}
use Rattle.wsn_parts.specs.EventsAt.{IsWholeAt, IsUnfinishedAt, EndsBefore, IsInHeadAt, IsAfterAll, IsInsideAt}

-- What has come in these bytes of the payload of an event that isn't complete: of the one that begins at the offset; or
-- nothing, since all frames end before it or at it.
abbrev pub IsPartAt : Role → Limits → List ℕ → Verdict → ℕ → List ℕ → Type 0
IsPartAt role limits bytes verdict at payload =
    IsUnfinishedAt role limits bytes verdict at payload
    ⊎ (EndsBefore role limits bytes verdict at × (payload ≡ []))

-- The same at their verdict.
abbrev pub IsPartOf : Role → Limits → ℕ → List ℕ → List ℕ → Type 0
IsPartOf role limits at bytes payload = (verdict : Verdict) × IsPartAt role limits bytes verdict at payload

-- A prefix of the bytes, within the input limit, has this payload of the event that begins at the offset: all of it, or
-- what has come of it.
pub record IsPayloadInFront (role : Role) (limits : Limits) (bytes : List ℕ) (at : ℕ) (payload : List ℕ) : Type 0 where
  pub front : List ℕ
  pub later : List ℕ
  pub whole : bytes ≡ front ++ later
  pub within : length front ≤ limits.input
  pub is : IsWholeAt role limits front at payload
      ⊎ ((verdict : Verdict) × IsUnfinishedAt role limits front verdict at payload)

-- The answer is right for the bytes that came, and this was written. The event is complete: all of its payload. It isn't,
-- at the verdict: what has come of it. The offset is inside an event, in a head, or after all that came: nothing. After a
-- failed write: a prefix of its payload in some of the bytes. At any other stop: what has come of it within the limit.
abbrev pub IsPayloadAnswer : Role → Limits → ℕ → Incoming → List ℕ → Outgoing → Outgoing → Result Payload Stop → Type 0
IsPayloadAnswer role limits at new came before after (Ok Whole) =
    (payload : List ℕ) × IsWholeAt role limits came at payload × IsWritten before after payload × (new.failed ≡ false)
IsPayloadAnswer role limits at new came before after (Ok (Unfinished verdict)) =
    (payload : List ℕ) × IsUnfinishedAt role limits came verdict at payload × IsWritten before after payload
    × IsReached role limits new came verdict
IsPayloadAnswer role limits at new came before after (Ok (Inside start)) =
    IsInsideAt role limits came at start × IsWritten before after [] × (new.failed ≡ false)
IsPayloadAnswer role limits at new came before after (Ok (Head start verdict)) =
    IsInHeadAt role limits came verdict at start × IsWritten before after [] × IsReached role limits new came verdict
IsPayloadAnswer role limits at new came before after (Ok (Nothing verdict)) =
    IsAfterAll role limits came verdict at × IsWritten before after [] × IsReached role limits new came verdict
IsPayloadAnswer role limits at new came before after (Err stop.Write) =
    (payload : List ℕ) × IsPayloadInFront role limits came at payload × IsPartlyWritten before after payload
    × (new.failed ≡ false)
IsPayloadAnswer role limits at new came before after (Err stopped) =
    (payload : List ℕ) × IsPartOf role limits at (take limits.input came) payload
    × IsWritten before after payload × IsStopped role limits new came stopped

-- These bytes came from the input, at most one past its limit; the answer is right for them, and this was written. After
-- a failed write nothing more was read: what has come of the payload in all but at most the last chunk was written.
pub record IsPayloadTaken (role : Role) (limits : Limits) (at : ℕ) (old new : Incoming) (before after : Outgoing)
    (result : Result Payload Stop) : Type 0 where
  pub came : List ℕ
  pub received : IsReceived (limits.input + 1) old new came
  pub answer : IsPayloadAnswer role limits at new came before after result
  pub at_once : result ≡ Err stop.Write → IsWrittenBut chunk_size (IsPartOf role limits at) came before after

-- ---- an input whose bytes are known

-- The answer for all bytes of an input. At the input limit the bytes within it are not refused, and what has come in
-- them of the payload was written. At any other stop this says nothing.
abbrev pub IsPayloadOfAll : Role → Limits → ℕ → List ℕ → Outgoing → Outgoing → Result Payload Stop → Type 0
IsPayloadOfAll role limits at all before after (Ok Whole) =
    (payload : List ℕ) × IsWholeAt role limits all at payload × IsWritten before after payload
IsPayloadOfAll role limits at all before after (Ok (Unfinished verdict)) =
    (payload : List ℕ) × IsUnfinishedAt role limits all verdict at payload × IsWritten before after payload
    × IsWithinLimit limits all verdict
IsPayloadOfAll role limits at all before after (Ok (Inside start)) =
    IsInsideAt role limits all at start × IsWritten before after []
IsPayloadOfAll role limits at all before after (Ok (Head start verdict)) =
    IsInHeadAt role limits all verdict at start × IsWritten before after [] × IsWithinLimit limits all verdict
IsPayloadOfAll role limits at all before after (Ok (Nothing verdict)) =
    IsAfterAll role limits all verdict at × IsWritten before after [] × IsWithinLimit limits all verdict
IsPayloadOfAll role limits at all before after (Err stop.InputLimit) =
    (payload : List ℕ) × IsPartOf role limits at (take limits.input all) payload
    × IsWritten before after payload × (limits.input < length all) × IsUnrefused role limits (take limits.input all)
IsPayloadOfAll role limits at all before after (Err stopped) = ⊤
