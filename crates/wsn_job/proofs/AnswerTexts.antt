-- What `same` prints of an answer, and that a stop of the comparison is no failed write.
use Rattle.std.proofs.Common.{◌≡◌, ℕ, ◌≤◌, Option, None, Some, Result, Ok, Err, List, inl, inr, refl, sym, ◌∙◌, subst}
use Rattle.wsn_io.specs.Transfer.{Outgoing}
use Rattle.wsn_io.specs.Stops.{IsWrittenOrStops}
use Rattle.wsn_io.specs.declared.stop.Stop.{Stop}
use Rattle.wsn_io.specs.declared.stop.Stop.TheVariants as stop
use Rattle.wsn_rules.specs.declared.compared.Compared.{Compared}
use Rattle.wsn_rules.specs.declared.compared.Compared.TheVariants.{Equal, Different, NotAccepted}
use Rattle.wsn_rules.specs.ShownStream.{Item}
use Rattle.wsn_print.specs.DifferingPayloads.{event_in, StandsForPayloads}
use Rattle.wsn_events.specs.PayloadExcerpts.{ArePayloadsKept}
use Rattle.wsn_print.specs.declared.shown.Difference.{Difference}
use Rattle.wsn_shown_text.specs.DifferenceText.{difference_text}
use Rattle.wsn_print.specs.Formats.{comparison_text}
use Rattle.wsn_print.specs.ShownParts.{StandsFor}
use Rattle.wsn_events.specs.declared.first_difference.FirstDifference.{FirstDifference}
use Rattle.wsn_events.specs.Excerpts.{IsExcerptIn, HasExcerpts}
use Rattle.wsn_command.specs.declared.comparison.Comparison.{Comparison}
use Rattle.wsn_job.specs.Comparisons.{ComparedChannels, IsComparisonAnswer, IsDifferenceText, IsAnswerText, IsComparisonPrinted}

-- The answer's text was written, or a prefix of it.
abbrev pub PutsAnswer : Comparison → List ℕ → List ℕ → Compared → Outgoing → Outgoing → Result (Unit {0}) Stop → Type 0
PutsAnswer comparison bytes others compared before after result =
    (text : List ℕ) × IsAnswerText comparison bytes others compared text × IsWrittenOrStops before after text result

module _ (comparison : Comparison) (bytes others : List ℕ) (before after : Outgoing) (result : Result (Unit {0}) Stop) where
  -- an answer but `different`
  pub puts_other : (compared : Compared) → ((k : ℕ) → compared ≡ Different k → ⊥) → IsWrittenOrStops before after (comparison_text comparison.format compared) result → PutsAnswer comparison bytes others compared before after result
  puts_other Equal none put = (comparison_text comparison.format Equal, refl, put)
  puts_other (Different k) none put = absurd (none k refl)
  puts_other (NotAccepted second verdict) none put = (comparison_text comparison.format (NotAccepted second verdict), refl, put)

  -- a difference without a view
  pub puts_unseen : (compared : Compared) (k : ℕ) → compared ≡ Different k → comparison.view ≡ None → IsWrittenOrStops before after (comparison_text comparison.format compared) result → PutsAnswer comparison bytes others compared before after result
  puts_unseen compared k is none put =
      let text = comparison_text comparison.format (Different k) in
      let printed : IsDifferenceText comparison.view comparison bytes others k text = subst (λ (v : Option ℕ). IsDifferenceText v comparison bytes others k text) (sym none) refl in
      subst (λ (x : Compared). PutsAnswer comparison bytes others x before after result) (sym is)
      (text, printed, subst (λ (x : Compared). IsWrittenOrStops before after (comparison_text comparison.format x) result) is put)

  -- there is always something to show
  pub never_nothing : (compared : Compared) (k : ℕ) (difference : Option FirstDifference) → compared ≡ Different k → difference ≡ None → HasExcerpts comparison.without comparison.role comparison.limits bytes others (Ok (compared, difference)) → ⊥
  never_nothing compared k difference is none has =
      subst (λ (x : Compared). HasExcerpts comparison.without comparison.role comparison.limits bytes others (Ok (x, None))) is
      (subst (λ (d : Option FirstDifference). HasExcerpts comparison.without comparison.role comparison.limits bytes others (Ok (compared, d))) none has)

  -- a difference with a view
  pub puts_seen : (compared : Compared) (k n : ℕ) (difference : Option FirstDifference) (d : FirstDifference) (shown : Difference) → compared ≡ Different k → comparison.view ≡ Some n → n ≤ 4096 → difference ≡ Some d
      → HasExcerpts comparison.without comparison.role comparison.limits bytes others (Ok (compared, difference))
      → shown.index ≡ d.index → ((m : ℕ) (item : Option Item) → m ≤ 4096 → IsExcerptIn d.first item → StandsFor m shown.first item)
      → ((m : ℕ) (item : Option Item) → m ≤ 4096 → IsExcerptIn d.second item → StandsFor m shown.second item)
      → ((m : ℕ) (one other : Option Item) → m ≤ 4096 → ArePayloadsKept d.payloads (event_in one) (event_in other) → StandsForPayloads m shown.payloads one other)
      → ((one other : Option Item) → StandsFor n shown.first one → StandsFor n shown.second other → StandsForPayloads n shown.payloads one other → IsWrittenOrStops before after (difference_text comparison.format n comparison.role shown.index one other) result)
      → PutsAnswer comparison bytes others compared before after result
  puts_seen compared k n difference d shown is seen few some has index first second payloads puts =
      let at =
      subst (λ (x : Compared). HasExcerpts comparison.without comparison.role comparison.limits bytes others (Ok (x, Some d))) is
      (subst (λ (x : Option FirstDifference). HasExcerpts comparison.without comparison.role comparison.limits bytes others (Ok (compared, x))) some has) in
      let one = at.first.0 in
      let other = at.second.0 in
      let text = difference_text comparison.format n comparison.role k one other in
      let printed : IsDifferenceText comparison.view comparison bytes others k text =
      subst (λ (v : Option ℕ). IsDifferenceText v comparison bytes others k text) (sym seen) (one, other, at.first.1, at.second.1, refl) in
      subst (λ (x : Compared). PutsAnswer comparison bytes others x before after result) (sym is) (
        text,
        printed,
        subst (λ (i : ℕ). IsWrittenOrStops before after (difference_text comparison.format n comparison.role i one other) result) (index ∙ at.index_is)
            (puts one other (first n one few at.first.2) (second n other few at.second.2) (payloads n one other few at.payloads)),
      )

-- a stop of the comparison, before which nothing was printed
pub stop_printed : (comparison : Comparison) (before after : ComparedChannels) (stopped : Stop) → IsComparisonAnswer comparison before after (Err stopped) → after.output ≡ before.output → IsComparisonPrinted comparison before after (Err stopped)
stop_printed comparison before after stop.Write is same = elim is.answer [ inl one ↦ absurd one.1.0 | inr other ↦ absurd other.1.0 ]
stop_printed comparison before after _ is same = (is, same)
