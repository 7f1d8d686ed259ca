use Rattle.std.proofs.Common.{rules}
use Rattle.wsn_job.proofs.diagnostics.diagnose_verdict.Goals as goal

pub returns-then-not-failed : goal.returns-then-not-failed
returns-then-not-failed g c = search rules

pub returns-else-not-failed : goal.returns-else-not-failed
returns-else-not-failed g c = search rules

pub put_verdict-requires : goal.put_verdict-requires
put_verdict-requires g c = search rules
