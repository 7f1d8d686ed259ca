use Rattle.std.proofs.Common.{◌≡◌, ℕ, List, length}
use Rattle.wsn_scan.specs.ChunkReaders.{chunks_ahead}
use Rattle.wsn_scan.specs.Judging.{chunk_size}
use Rattle.wsn_parts.proofs.SoughtInputs.{HasSoughtInput}
use Rattle.wsn_parts.proofs.taking.payload.Given as goal

-- all that came has been taken and has no answer
abbrev pub invariant-loop-len : goal.invariant-loop-len
invariant-loop-len g l = record {
  read : (came : List ℕ) × HasSoughtInput l.fn.role l.fn.limits l.fn.at l.fn.input l.input l.chunks l.fn.output l.output l.scan l.event came;
  size : length l.buffer ≡ chunk_size;
}

abbrev pub decreases-loop-len : goal.decreases-loop-len
decreases-loop-len g l = chunks_ahead l.chunks
