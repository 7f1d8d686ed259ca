-- The exit status of a comparison that was printed: one of three, and 2 if a read or a write failed.
use Rattle.std.proofs.Common.{◌≡◌, ◌⊎◌, true, Result, Ok, Err, inl, inr, refl, rules}
use Rattle.wsn_io.specs.declared.stop.Stop.{Stop}
use Rattle.wsn_rules.specs.declared.compared.Compared.{Compared}
use Rattle.wsn_rules.specs.declared.compared.Compared.TheVariants.{Equal, Different, NotAccepted}
use Rattle.wsn_command.specs.declared.comparison.Comparison.{Comparison}
use Rattle.wsn_print.specs.Statuses.{comparison_status}
use Rattle.wsn_job.specs.Comparisons.{ComparedChannels, IsComparisonPrinted}

pub status_of : (done : Result Compared Stop) →
    (comparison_status done ≡ 0) ⊎ (comparison_status done ≡ 1) ⊎ (comparison_status done ≡ 2)
status_of (Ok Equal) = inl refl
status_of (Ok (Different k)) = inr (inl refl)
status_of (Ok (NotAccepted second verdict)) = inr (inl refl)
status_of (Err stopped) = inr (inr refl)

pub first_failed : (comparison : Comparison) (before after : ComparedChannels) (done : Result Compared Stop) →
    IsComparisonPrinted comparison before after done → after.first.failed ≡ true → comparison_status done ≡ 2
first_failed comparison before after done printed failed = search rules

pub second_failed : (comparison : Comparison) (before after : ComparedChannels) (done : Result Compared Stop) →
    IsComparisonPrinted comparison before after done → after.second.failed ≡ true → comparison_status done ≡ 2
second_failed comparison before after done printed failed = search rules

pub write_failed : (comparison : Comparison) (before after : ComparedChannels) (done : Result Compared Stop) →
    IsComparisonPrinted comparison before after done → after.output.failed ≡ true → comparison_status done ≡ 2
write_failed comparison before after done printed failed = search rules
