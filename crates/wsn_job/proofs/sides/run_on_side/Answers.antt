use Rattle.std.proofs.Common.{rules}
use Rattle.wsn_job.proofs.SideRuns.{side_run, side_run_to_line}
use Rattle.wsn_job.proofs.sides.run_on_side.Goals as goal

pub returns-in-Some : goal.returns-in-Some
returns-in-Some g c = record {
  done = side_run_to_line c.args.job.now c.args.side.now c.work-done.new.input c.args.output.now c.work-done.new.output
      c.args.errors.now c.diagnose.new.errors c.work-done.result c.status.result c.in-Some.line.number
      c.in-Some.line.fault c.requires.may_run c.requires.readable c.work-done.ensures.done c.in-Some.ensures
      c.diagnose.ensures c.status.ensures;
  status = rw c.status.ensures c.work-done.ensures.status;
  read = rw c.status.ensures c.work-done.ensures.read;
  write = rw c.status.ensures c.work-done.ensures.write;
}

pub returns : goal.returns
returns g c = record {
  done = side_run c.args.job.now c.args.side.now c.work-done.new.input c.args.output.now c.work-done.new.output
      c.args.errors.now c.diagnose-in-None.new.errors c.work-done.result c.ran.result c.work-done.ensures.done
      c.diagnose-in-None.ensures c.ran.ensures;
  status = rw c.ran.ensures c.work-done.ensures.status;
  read = rw c.ran.ensures c.work-done.ensures.read;
  write = rw c.ran.ensures c.work-done.ensures.write;
}

pub work-done-requires : goal.work-done-requires
work-done-requires g c = record { readable = search rules; writable = search rules; may_run = search rules }
