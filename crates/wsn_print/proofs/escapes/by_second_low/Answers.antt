use Rattle.wsn_print.specs.declared.escapes.TheConstants.{SECOND_LOW}
use Rattle.wsn_print.proofs.PlainStarts.{second_halves_fit, by_second_half}
use Rattle.wsn_print.proofs.escapes.by_second_low.Goals as goal

pub swizzle : goal.swizzle
swizzle c = second_halves_fit c.args.next c.fits-next.0

pub returns : goal.returns
returns c = by_second_half SECOND_LOW c.args.next c.fits-next.0 c.fits-next.1
