use Rattle.std.proofs.Common.{◌≡◌, ◌⊎◌, ℕ, rules, sym, subst, ◌∙◌}
use Rattle.wsn_job.specs.Comparisons.{compared_channels}
use Rattle.wsn_job.proofs.ComparedRuns.{status_of, first_failed, second_failed, write_failed}
use Rattle.wsn_job.proofs.comparisons.run_same.Goals as goal

pub returns : goal.returns
returns g c =
    let done = c.print_comparison-done.result in
    let printed = c.print_comparison-done.ensures in
    let before = compared_channels c.args.streams.now.first c.args.streams.now.second c.args.output.now in
    let new = c.print_comparison-done.new in
    let after = compared_channels new.streams.first new.streams.second new.output in
    let is = c.status_of_comparison.ensures in
    record {
      done = (done, printed, search rules, c.diagnose_if_stopped.ensures);
      status = subst (λ (status : ℕ). (status ≡ 0) ⊎ (status ≡ 1) ⊎ (status ≡ 2)) (sym is) (status_of done);
      read = λ failed. is ∙ first_failed c.args.comparison before after done printed failed;
      read_second = λ failed. is ∙ second_failed c.args.comparison before after done printed failed;
      write = λ failed. is ∙ write_failed c.args.comparison before after done printed failed;
    }

pub print_comparison-done-requires : goal.print_comparison-done-requires
print_comparison-done-requires g c = record { first = search rules; second = search rules; writable = search rules }
