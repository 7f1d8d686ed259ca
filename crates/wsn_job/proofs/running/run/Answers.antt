use Rattle.std.proofs.Common.{rules}
use Rattle.wsn_job.specs.Channels.{channels}
use Rattle.wsn_job.proofs.Runs.{run_of_done}
use Rattle.wsn_job.proofs.running.run.Goals as goal

pub returns : goal.returns
returns g c = record {
  done = rw c.ran.ensures
      (run_of_done c.args.job.now (channels c.args.input.now c.args.output.now c.args.errors.now)
      (channels c.work-done.new.input c.work-done.new.output c.diagnose.new.errors) c.work-done.result
      c.work-done.ensures.done c.diagnose.ensures);
  status = rw c.ran.ensures c.work-done.ensures.status;
  read = rw c.ran.ensures c.work-done.ensures.read;
  write = rw c.ran.ensures c.work-done.ensures.write;
}

pub work-done-requires : goal.work-done-requires
work-done-requires g c = record { readable = search rules; writable = search rules; may_run = search rules }
