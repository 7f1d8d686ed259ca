use Rattle.std.proofs.Common.{rules}
use Rattle.wsn_job.proofs.redactions.diagnose_redact_stop.Goals as goal

pub returns-in-Capture-Line : goal.returns-in-Capture-Line
returns-in-Capture-Line g c = search rules
