use Rattle.wsn_redact.proofs.Singles.{range_lanes}
use Rattle.wsn_redact.proofs.stand_ins.with_range.Goals as goal

pub returns : goal.returns
returns g c = range_lanes c.args.low c.args.high c.args.other g.row.N c.args.block c.fits-block.0
