use Rattle.std.proofs.Common.{rules}
use Rattle.wsn_wire.proofs.length_encoding.Form.fits.Goals as goal

pub returns-in-Two : goal.returns-in-Two
returns-in-Two c = search rules
