use Rattle.std.proofs.Common.{rules}
use Rattle.wsn_redact.proofs.stand_ins.single.Goals as goal

pub returns-in-97-to-122 : goal.returns-in-97-to-122
returns-in-97-to-122 c = search rules
