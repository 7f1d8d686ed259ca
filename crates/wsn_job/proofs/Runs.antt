-- A job's run is its work, and what it says of it on standard error.
use Rattle.std.proofs.Common.{refl}
use Rattle.wsn_command.specs.declared.job.Job.{Job}
use Rattle.wsn_job.specs.declared.done.Done.{Done}
use Rattle.wsn_job.specs.Channels.{Channels}
use Rattle.wsn_job.specs.Work.{IsDone, IsDoneDiagnosed, IsRun, done_ran}

pub run_of_done : {A : Type 0} (job : Job A) (before after : Channels) (d : Done A) →
    IsDone job before.input after.input before.output after.output d → IsDoneDiagnosed d before.errors after.errors →
    IsRun job before after (done_ran d)
run_of_done job before after d is said = (d, is, refl, said)
