use Rattle.std.proofs.Common.{rules}
use Rattle.wsn_c.proofs.text.TextWrite.write.Goals as goal

pub returns-clause-bytes : goal.returns-clause-bytes
returns-clause-bytes g c = search rules
