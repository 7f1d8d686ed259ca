use Rattle.wsn_print.specs.declared.escapes.TheConstants.{FIRST_LOW}
use Rattle.wsn_print.proofs.PlainStarts.{second_halves_fit, by_second_half}
use Rattle.wsn_print.proofs.escapes.by_first_low.Goals as goal

pub swizzle : goal.swizzle
swizzle c = second_halves_fit c.args.block c.fits-block.0

pub returns : goal.returns
returns c = by_second_half FIRST_LOW c.args.block c.fits-block.0 c.fits-block.1
