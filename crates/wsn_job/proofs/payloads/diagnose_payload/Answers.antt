use Rattle.std.proofs.Common.{rules}
use Rattle.wsn_job.proofs.payloads.diagnose_payload.Goals as goal

pub returns-in-Ok-Inside : goal.returns-in-Ok-Inside
returns-in-Ok-Inside g c = search rules
