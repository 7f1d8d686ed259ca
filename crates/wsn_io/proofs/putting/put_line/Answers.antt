use Rattle.std.proofs.Common.{rules}
use Rattle.wsn_io.proofs.putting.put_line.Goals as goal

pub returns-else-put : goal.returns-else-put
returns-else-put g c = search rules

pub put-requires : goal.put-requires
put-requires g c = search rules

pub returns-then-put : goal.returns-then-put
returns-then-put g c = search rules
