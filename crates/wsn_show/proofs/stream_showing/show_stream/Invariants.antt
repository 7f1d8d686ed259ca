use Rattle.std.proofs.Common.{◌≡◌, ℕ, List, length}
use Rattle.wsn_scan.specs.ChunkReaders.{chunks_ahead}
use Rattle.wsn_scan.specs.Judging.{chunk_size}
use Rattle.wsn_show.proofs.ShownStreamInputs.{HasShownInput}
use Rattle.wsn_show.proofs.stream_showing.show_stream.Given as goal

-- what is shown of all bytes that came was printed, and they aren't refused
abbrev pub invariant-loop-len : goal.invariant-loop-len
invariant-loop-len g l = record {
  read : (came : List ℕ) × HasShownInput l.fn.role l.fn.limits l.fn.style l.fn.input l.input l.chunks l.fn.output l.output l.stream came;
  size : length l.buffer ≡ chunk_size;
}

abbrev pub decreases-loop-len : goal.decreases-loop-len
decreases-loop-len g l = chunks_ahead l.chunks
