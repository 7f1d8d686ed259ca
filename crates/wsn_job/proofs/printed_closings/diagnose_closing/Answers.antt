use Rattle.std.proofs.Common.{rules}
use Rattle.wsn_job.proofs.printed_closings.diagnose_closing.Goals as goal

pub returns-in-Err : goal.returns-in-Err
returns-in-Err g c = search rules

pub returns-in_default : goal.returns-in_default
returns-in_default g c = search rules
