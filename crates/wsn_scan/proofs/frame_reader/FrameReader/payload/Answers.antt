use Rattle.std.proofs.Common.{rules}
use Rattle.wsn_scan.proofs.frame_reader.FrameReader.payload.Goals as goal

pub returns : goal.returns
returns c = search rules

pub slice_bounds-result-count : goal.slice_bounds-result-count
slice_bounds-result-count c = search rules

pub slice_bounds-result-start : goal.slice_bounds-result-start
slice_bounds-result-start c = search rules

pub slice_bounds-result-end : goal.slice_bounds-result-end
slice_bounds-result-end c = search rules
