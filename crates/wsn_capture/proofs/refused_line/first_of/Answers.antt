use Rattle.wsn_capture.proofs.OffendingLines.{first_kept}
use Rattle.wsn_capture.proofs.refused_line.first_of.Goals as goal

pub returns : goal.returns
returns c = first_kept c.args.bytes.now c.copy_from_slice.new.self c.min-count.result c.min-count.ensures c.copy_from_slice.ensures.after
