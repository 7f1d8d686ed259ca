use Rattle.std.proofs.Common.{rules, refl, ap}
use Rattle.wsn_command.specs.declared.answered.Ran.{Ran}
use Rattle.wsn_c.proofs.MemoryRuns.{compares_over}
use Rattle.wsn_c.proofs.comparing.compare.Goals as goal

pub returns : goal.returns
returns c =
    let done = c.run_same-ran.ensures.done in (
      _,
      record { role = refl; limits = refl; without = refl; format = refl; view = refl },
      c.into_writer.result,
      c.into_writer-2.result,
      c.run_same-ran.result.status,
      compares_over _ c.args.first.now c.args.second.now c.into_writer.result
          c.into_writer-2.result done.0 c.run_same-ran.result.status
          c.lent.result c.run_same-ran.new.streams.first c.lent-2.result c.run_same-ran.new.streams.second
          c.new-printed.result c.run_same-ran.new.output c.new-said.result c.run_same-ran.new.errors
          (search rules) (search rules) (search rules) (search rules) (search rules) (search rules)
          done.1 (ap (λ (ran : Ran). ran.status) done.2) done.3,
      search rules,
    )
