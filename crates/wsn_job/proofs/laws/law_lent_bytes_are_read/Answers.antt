use Rattle.wsn_job.proofs.LentRuns.{run_is_read, comparison_is_read}
use Rattle.wsn_job.proofs.laws.law_lent_bytes_are_read.Goals as goal

pub returns-clause-run : goal.returns-clause-run
returns-clause-run c = run_is_read

pub returns-clause-comparison : goal.returns-clause-comparison
returns-clause-comparison c comparison before after answer printed first_lent first_unfailed second_lent second_unfailed =
    let read = comparison_is_read comparison before after answer printed in
    (read.0 first_lent first_unfailed, read.1 second_lent second_unfailed)
