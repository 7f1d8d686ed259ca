use Rattle.std.proofs.Common.{rules}
use Rattle.wsn_color.proofs.opening.Opening.tone.Goals as goal

pub returns-in-Client : goal.returns-in-Client
returns-in-Client c = search rules
