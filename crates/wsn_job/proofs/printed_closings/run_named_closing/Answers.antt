use Rattle.std.proofs.Common.{rules}
use Rattle.wsn_job.proofs.printed_closings.run_named_closing.Goals as goal

pub returns-clause-done : goal.returns-clause-done
returns-clause-done g c = search rules
