use Rattle.std.proofs.Common.{rules}
use Rattle.wsn_job.proofs.printed_closings.diagnose_closing_stop.Goals as goal

pub returns-in-Capture-Read : goal.returns-in-Capture-Read
returns-in-Capture-Read g c = search rules

pub returns-in-Capture-Line : goal.returns-in-Capture-Line
returns-in-Capture-Line g c = search rules

pub returns-in-Write : goal.returns-in-Write
returns-in-Write g c = rw c.in-Write.is c.diagnose_stop-in-Write.ensures
