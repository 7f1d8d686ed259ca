use Rattle.std.proofs.Common.{rules}
use Rattle.wsn_c.proofs.MemoryRuns.{runs_over}
use Rattle.wsn_c.proofs.running.run_over.Goals as goal

pub returns : goal.returns
returns c = (
  c.into_writer.result,
  c.into_writer-2.result,
  _,
  c.run-ran.result.status,
  runs_over c.args.job.now c.args.bytes.now c.into_writer.result c.into_writer-2.result c.run-ran.result
      c.run-ran.new.input c.lent.result c.new-printed.result c.run-ran.new.output c.new-said.result
      c.run-ran.new.errors (search rules) (search rules) (search rules) (search rules) (search rules)
      c.run-ran.ensures.done,
  search rules,
)
