use Rattle.wsn_print.specs.declared.escapes.TheConstants.{FIRST_HIGH}
use Rattle.wsn_print.proofs.PlainStarts.{first_halves_fit, by_first_half}
use Rattle.wsn_print.proofs.escapes.by_first_high.Goals as goal

pub swizzle : goal.swizzle
swizzle c = first_halves_fit c.args.block c.fits-block.0 c.fits-block.1

pub returns : goal.returns
returns c = by_first_half FIRST_HIGH c.args.block c.fits-block.0 c.fits-block.1
