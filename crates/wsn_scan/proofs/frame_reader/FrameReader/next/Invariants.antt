use Rattle.std.proofs.Common.{◌≡◌, ◌≤◌, false, ℕ, List}
use Rattle.wsn_wire.specs.declared.endpoint.Role.{Role}
use Rattle.wsn_wire.specs.Frame.{Frame}
use Rattle.wsn_rules.specs.Limits.{Limits}
use Rattle.wsn_scan.specs.ChunkReaders.{chunks_ahead}
use Rattle.wsn_scan.specs.Positions.{Position}
use Rattle.wsn_scan.specs.FrameReaders.{HasTaken, parts_ahead}
use Rattle.wsn_scan.proofs.ReaderCalls.{HasRead}
use Rattle.wsn_scan.proofs.frame_reader.FrameReader.next.Given as goal

-- The call has read these bytes more and taken nothing yet.
abbrev pub invariant-loop-self : goal.invariant-loop-self
invariant-loop-self g l = record {
  read : (role : Role) (limits : Limits) (came : List ℕ) (fs : List Frame) (at : Position) → HasTaken role limits l.fn.self came fs at → HasRead role limits l.fn.input l.input l.self came fs at;
  unfailed : l.input.failed ≡ false;
  left : parts_ahead l.self ≤ parts_ahead l.fn.self;
}

abbrev pub decreases-loop-self : goal.decreases-loop-self
decreases-loop-self g l = chunks_ahead l.self.chunks
