use Rattle.wsn_redact.proofs.Singles.{by_ranges}
use Rattle.wsn_redact.proofs.stand_ins.single_stand_ins.Goals as goal

pub returns : goal.returns
returns g c =
    by_ranges c.args.block c.with_range-block.result c.with_range-block-2.result c.with_range.result
    c.with_range-block.ensures c.with_range-block-2.ensures c.with_range.ensures
