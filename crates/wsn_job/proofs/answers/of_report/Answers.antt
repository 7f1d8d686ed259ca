use Rattle.std.proofs.Common.{rules}
use Rattle.wsn_job.proofs.answers.of_report.Goals as goal

pub returns-in-Err-Capture-Line : goal.returns-in-Err-Capture-Line
returns-in-Err-Capture-Line c = search rules
