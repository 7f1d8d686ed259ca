use Rattle.wsn_redact.proofs.Singles.{ascii_lanes}
use Rattle.wsn_redact.proofs.stand_ins.is_ascii.Goals as goal

pub returns : goal.returns
returns g c = ascii_lanes g.row.N c.args.block c.fits-block.0 c.requires
