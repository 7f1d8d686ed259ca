use Rattle.std.proofs.Common.{rules}
use Rattle.wsn_wire.proofs.length_encoding.LenForm.count.Goals as goal

pub returns-in-Eight : goal.returns-in-Eight
returns-in-Eight c = search rules
