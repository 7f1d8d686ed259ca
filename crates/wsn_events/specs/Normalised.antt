-- What normalising answers, what the answer says of the bytes that came, and what was written.
use Rattle.std.specs.Prelude.{◌≡◌, ℕ, ◌+◌, ◌≤◌, true, false, Result, Err, List, [], ◌∷◌, ◌++◌, length, take, ◌<◌, Ok, ⊤}
use Rattle.wsn_wire.specs.declared.endpoint.Role.{Role}
use Rattle.wsn_io.specs.Transfer.{Incoming, Outgoing, IsReceived, IsWritten, IsPartlyWritten}
use Rattle.wsn_rules.specs.declared.verdict.Verdict.{Verdict}
use Rattle.wsn_io.specs.declared.stop.Stop.{Stop}
use Rattle.wsn_io.specs.declared.stop.Stop.TheVariants as stop
use Rattle.wsn_rules.specs.Lawful.{IsLawful}
use Rattle.wsn_rules.specs.Limits.{Limits}
use Rattle.wsn_rules.specs.Meaning.{MeantEvent, meaning}
use Rattle.wsn_rules.specs.NormalForm.{normal_form}
use Rattle.wsn_events.specs.Sources.{IsMeaningOf, IsLast}
use Rattle.wsn_wire.specs.Frame.{Frame, stream}
use Rattle.wsn_rules.specs.Verdict.{IsVerdict, IsUnrefused}
use Rattle.wsn_scan.specs.Judging.{chunk_size}
pub use Rattle.wsn_scan.specs.Judging.{IsWithinLimit}

-- A write failed in the normal form of an event, or of events after it: that of the events before was written whole. At
-- most `chunk_size` bytes came after the frame that ends it, so none was read after that write.
pub record IsWriteFailed (role : Role) (limits : Limits) (came : List ℕ) (before after : Outgoing) : Type 0 where
  pub frames : List Frame
  pub frame : Frame
  pub lawful : IsLawful role limits (frames ++ frame ∷ [])
  pub final : frame.fin ≡ true
  pub rest : List ℕ
  pub whole : came ≡ stream (frames ++ frame ∷ []) ++ rest
  pub soon : length rest ≤ chunk_size
  pub between : Outgoing
  pub written : IsWritten before between (normal_form role (meaning frames))
  pub verdict : Verdict
  pub later : List MeantEvent
  pub means : IsMeaningOf role limits (take limits.input came) verdict (meaning frames ++ later)
  pub partly : IsPartlyWritten between after (normal_form role later)

-- The answer is right for the bytes that came, and the normal form of the events that a source gives with it was
-- written. After a failed write, a prefix of the normal form of the bytes within the limit was written.
abbrev pub IsNormalFormWritten : Role → Limits → Incoming → List ℕ → Outgoing → Outgoing → Result Verdict Stop → Type 0
IsNormalFormWritten role limits new came before after (Err stop.Write) =
    (new.failed ≡ false) × IsWriteFailed role limits came before after
IsNormalFormWritten role limits new came before after result =
    (events : List MeantEvent) × IsLast role limits new came events result
    × IsWritten before after (normal_form role events)

-- These bytes came from the input, at most one past its limit; the answer is right for them, and this was written.
pub record IsNormalised (role : Role) (limits : Limits) (old new : Incoming) (before after : Outgoing)
    (result : Result Verdict Stop) : Type 0 where
  pub came : List ℕ
  pub received : IsReceived (limits.input + 1) old new came
  pub written : IsNormalFormWritten role limits new came before after result

-- ---- an input whose bytes are known

-- The answer for all bytes of an input. With a verdict on them, the normal form of their meaning was written. At the
-- input limit the bytes within it are not refused, and the normal form of their meaning was written. At any other stop
-- this says nothing.
abbrev pub IsNormalisedWhole : Role → Limits → List ℕ → Outgoing → Outgoing → Result Verdict Stop → Type 0
IsNormalisedWhole role limits all before after (Ok verdict) =
    (fs : List Frame) × IsVerdict role limits all fs verdict × IsWithinLimit limits all verdict
    × IsWritten before after (normal_form role (meaning fs))
IsNormalisedWhole role limits all before after (Err stop.InputLimit) =
    (limits.input < length all) × IsUnrefused role limits (take limits.input all)
    × ((verdict : Verdict) × (fs : List Frame) × IsVerdict role limits (take limits.input all) fs verdict
    × IsWritten before after (normal_form role (meaning fs)))
IsNormalisedWhole role limits all before after (Err stopped) = ⊤
