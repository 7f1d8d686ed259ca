-- Frames that each end an event, taken at once by a reader of frames.
use Rattle.std.specs.List.{slice_range}
use Rattle.std.proofs.Common.{◌≡◌, ℕ, ◌+◌, ◌-◌, Option, None, List, [], ◌++◌, take, drop, sym, ap, ◌∙◌, subst, arith}
use Rattle.std.proofs.lemmas.List.{take-take}
use Rattle.wsn_wire.specs.declared.endpoint.Role.{Role}
use Rattle.wsn_wire.specs.Frame.{Frame}
use Rattle.wsn_frame.specs.declared.kept_message.OpenMessage.{OpenMessage}
use Rattle.wsn_frame.specs.KeptMessages.{IsOpenMessage}
use Rattle.wsn_rules.specs.Limits.{Limits}
use Rattle.wsn_rules.specs.Group.{unfinished}
use Rattle.wsn_scan.specs.declared.frame_reader.FrameReader.{FrameReader}
use Rattle.wsn_scan.specs.declared.stage.Stage.{Stage}
use Rattle.wsn_scan.specs.declared.stage.Stage.TheVariants as stages
use Rattle.wsn_scan.specs.EventFrames.{TakesEvents, IsIdle}
use Rattle.wsn_scan.specs.Positions.{Position}
use Rattle.wsn_scan.specs.FrameReaders.{HasTaken, TakesRun, unread, held_payload}
use Rattle.wsn_scan.specs.Scans.{HasScannedAt, refusal_in}
use Rattle.wsn_scan.proofs.ReaderBuffers.{within, buffered_on}

-- A call of the scan, which got the unscanned part of the buffer and consumed n bytes of it, whole frames that each end
-- an event.
pub record IsRun (old new : FrameReader) (n : ℕ) : Type 0 where
  pub idle : IsIdle old.scan
  pub takes : TakesEvents old.scan new.scan (unread old) (slice_range new.buffer old.at old.end) n
  pub reported : refusal_in old.scan ≡ None → refusal_in new.scan ≡ None
  pub kept : slice_range new.buffer (old.at + n) old.end ≡ slice_range old.buffer (old.at + n) old.end
  pub from_is : new.from ≡ old.at
  pub at_is : new.at ≡ old.at + n
  pub end_is : new.end ≡ old.end
  pub chunks_is : new.chunks ≡ old.chunks

module _ (old new : FrameReader) (n : ℕ) (call : IsRun old new n) where
  -- the run is what the reader holds
  payload_is : held_payload new ≡ take n (slice_range new.buffer old.at old.end)
  payload_is =
      ap (λ (from : ℕ). take (new.at - from) (drop from new.buffer)) call.from_is
      ∙ ap (λ (m : ℕ). take m (drop old.at new.buffer)) (omega (arith, call.at_is))
      ∙ sym (take-take n (old.end - old.at) (drop old.at new.buffer) (omega (arith, within old new n call.kept call.at_is call.end_is)))

pub takes_run : (role : Role) (limits : Limits) (old new : FrameReader) (n : ℕ) (came : List ℕ) (fs : List Frame) (at : Position) → HasTaken role limits old came fs at → IsRun old new n → TakesRun role limits new came fs at
takes_run role limits old new n came fs at h call =
    let between : HasScannedAt role limits old.scan stages.Between h.scanned fs h.since at =
    subst (λ (stage : Stage). HasScannedAt role limits old.scan stage h.scanned fs h.since at) call.idle.0 h.has_scanned in
    let took = call.takes role limits h.scanned h.since fs at h.has_scanned in
    record {
      between = between.is_at.2;
      none_before = subst (λ (m : Option OpenMessage). IsOpenMessage m (unfinished fs)) call.idle.1 h.has_scanned.has_consumed.message;
      frames = took.frames;
      events = took.events;
      has_taken = record {
        scanned = h.scanned ++ take n (unread old);
        since = [];
        has_scanned = took.has_scanned;
        unrefused = call.reported h.unrefused;
        buffered = buffered_on old new n call.kept call.at_is call.end_is limits came h.scanned call.chunks_is h.buffered;
      };
      none_open = took.none_open;
      means = took.means;
      normal_is = payload_is old new n call ∙ took.normal_is;
    }
