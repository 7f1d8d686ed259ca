use Rattle.std.proofs.Common.{◌≡◌, ℕ, List, length}
use Rattle.wsn_rules.specs.declared.head_info.HeadInfo.{HeadInfo}
use Rattle.wsn_scan.specs.ChunkReaders.{chunks_ahead}
use Rattle.wsn_scan.specs.Judging.{chunk_size}
use Rattle.wsn_scan.proofs.JudgedInputs.{HasRead}
use Rattle.wsn_scan.proofs.judging.judge.Given as goal

-- the scan has consumed all that came, and has not refused
abbrev pub invariant-loop-len : goal.invariant-loop-len
invariant-loop-len g l = record {
  read : (came : List ℕ) × (heads : List HeadInfo) × HasRead l.fn.role l.fn.limits l.fn.input l.input l.chunks l.scan came heads;
  size : length l.buffer ≡ chunk_size;
}

abbrev pub decreases-loop-len : goal.decreases-loop-len
decreases-loop-len g l = chunks_ahead l.chunks
