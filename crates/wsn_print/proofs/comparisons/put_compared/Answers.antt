use Rattle.std.proofs.Common.{rules}
use Rattle.wsn_print.proofs.comparisons.put_compared.Goals as goal

pub returns-after-second : goal.returns-after-second
returns-after-second g c = search rules

pub put_line-requires-in-Different : goal.put_line-requires-in-Different
put_line-requires-in-Different g c = search rules

pub bytes-requires : goal.bytes-requires
bytes-requires g c = search rules

pub put_line-requires : goal.put_line-requires
put_line-requires g c = search rules

pub put_verdict_of-requires : goal.put_verdict_of-requires
put_verdict_of-requires g c = search rules

pub returns-in-Equal : goal.returns-in-Equal
returns-in-Equal g c = search rules

pub returns-in-Different : goal.returns-in-Different
returns-in-Different g c = search rules
