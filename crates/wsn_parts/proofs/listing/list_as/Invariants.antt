use Rattle.std.proofs.Common.{◌≡◌, ℕ, false, List, [], length}
use Rattle.std.specs.Io.KnownBytes.{Appends}
use Rattle.wsn_rules.specs.declared.head_info.HeadInfo.{HeadInfo}
use Rattle.wsn_print.specs.Formats.{heads_text}
use Rattle.wsn_scan.specs.ChunkReaders.{chunks_ahead}
use Rattle.wsn_scan.specs.Judging.{chunk_size}
use Rattle.wsn_scan.proofs.JudgedInputs.{HasRead}
use Rattle.wsn_parts.proofs.listing.list_as.Given as goal

-- the scan has consumed all that came, has not refused, and the heads that it took were written, so none is held
abbrev pub invariant-loop-len : goal.invariant-loop-len
invariant-loop-len g l = record {
  read : (came : List ℕ) × (heads : List HeadInfo) × HasRead l.fn.role l.fn.limits l.fn.input l.input l.chunks l.scan came heads
      × Appends l.fn.output.written l.output.written (heads_text l.fn.format heads);
  unfailed : l.output.failed ≡ false;
  size : length l.buffer ≡ chunk_size;
  none_held : l.lines ≡ [];
}

abbrev pub decreases-loop-len : goal.decreases-loop-len
decreases-loop-len g l = chunks_ahead l.chunks
