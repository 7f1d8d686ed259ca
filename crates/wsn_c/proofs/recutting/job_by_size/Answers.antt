use Rattle.std.proofs.Common.{ap, ◌∙◌}
use Rattle.wsn_command.specs.declared.job.Job.TheVariants.{Recut}
use Rattle.wsn_command.specs.declared.job.How.TheVariants.{BySize}
use Rattle.wsn_command.specs.Jobs.{key_by_size}
use Rattle.wsn_c.proofs.recutting.job_by_size.Goals as goal

pub returns-clause-value : goal.returns-clause-value
returns-clause-value c =
    let asked = c.in_ok-asked.asked in (
      asked,
      c.in_ok-asked.ensures.value,
      c.in_ok-flag.field-0,
      c.in_ok-flag.ensures.value,
      ap (λ how. Recut asked.role asked.limits how)
          (c.in_ok-how.ensures.how ∙ ap (λ key. BySize c.args.size c.in_ok-flag.field-0 (key_by_size asked.role key)) c.in_ok-key_of.ensures.value),
    )
