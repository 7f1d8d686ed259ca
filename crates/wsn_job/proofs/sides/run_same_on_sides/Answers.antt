use Rattle.std.proofs.Common.{◌≡◌, ◌⊎◌, ℕ, rules, inl, inr, refl, sym, subst, ◌∙◌}
use Rattle.wsn_job.specs.Comparisons.{compared_channels}
use Rattle.wsn_job.proofs.ComparedRuns.{status_of, first_failed, second_failed, write_failed}
use Rattle.wsn_job.proofs.sides.run_same_on_sides.Goals as goal

pub returns-in-Some : goal.returns-in-Some
returns-in-Some g c =
    let faulty = c.in-Some in
    let done = c.print_comparison-done.result in
    let printed = c.print_comparison-done.ensures in
    let before = compared_channels c.args.sides.now.first c.args.sides.now.second c.args.output.now in
    let new = c.print_comparison-done.new in
    let after = compared_channels new.streams.first new.streams.second new.output in
    let is = c.status_of_comparison-status.ensures in
    record {
      done = (done, printed, is, inr (refl, faulty.line.number, faulty.line.fault, faulty.ensures.1, faulty.ensures.0, c.diagnose.ensures));
      status = subst (λ (status : ℕ). (status ≡ 0) ⊎ (status ≡ 1) ⊎ (status ≡ 2)) (sym is) (status_of done);
      read = λ failed. is ∙ first_failed c.args.comparison before after done printed failed;
      read_second = λ failed. is ∙ second_failed c.args.comparison before after done printed failed;
      write = λ failed. is ∙ write_failed c.args.comparison before after done printed failed;
    }

pub returns-in-None : goal.returns-in-None
returns-in-None g c =
    let done = c.print_comparison-done.result in
    let printed = c.print_comparison-done.ensures in
    let before = compared_channels c.args.sides.now.first c.args.sides.now.second c.args.output.now in
    let new = c.print_comparison-done.new in
    let after = compared_channels new.streams.first new.streams.second new.output in
    let is = c.status_of_comparison-status.ensures in
    record {
      done = (done, printed, is, inl (c.of_comparison.ensures, c.diagnose_if_stopped.ensures));
      status = subst (λ (status : ℕ). (status ≡ 0) ⊎ (status ≡ 1) ⊎ (status ≡ 2)) (sym is) (status_of done);
      read = λ failed. is ∙ first_failed c.args.comparison before after done printed failed;
      read_second = λ failed. is ∙ second_failed c.args.comparison before after done printed failed;
      write = λ failed. is ∙ write_failed c.args.comparison before after done printed failed;
    }

pub print_comparison-done-requires : goal.print_comparison-done-requires
print_comparison-done-requires g c = record { first = search rules; second = search rules; writable = search rules }
