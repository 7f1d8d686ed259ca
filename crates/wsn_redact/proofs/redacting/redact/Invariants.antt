use Rattle.std.proofs.Common.{◌≡◌, ℕ, List, length}
use Rattle.wsn_scan.specs.ChunkReaders.{chunks_ahead}
use Rattle.wsn_scan.specs.Judging.{chunk_size}
use Rattle.wsn_redact.proofs.RedactedInputs.{HasRedactedInput}
use Rattle.wsn_redact.proofs.redacting.redact.Given as goal

-- All that came is redacted.
abbrev pub invariant-loop-len : goal.invariant-loop-len
invariant-loop-len g l = record {
  read : (came : List ℕ) × HasRedactedInput l.fn.role l.fn.limits l.fn.input l.input l.chunks l.fn.output l.output l.scan l.redactor came;
  size : length l.buffer ≡ chunk_size;
}

abbrev pub decreases-loop-len : goal.decreases-loop-len
decreases-loop-len g l = chunks_ahead l.chunks
