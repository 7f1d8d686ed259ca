use Rattle.wsn_rules.specs.Meaning.{meaning}
use Rattle.wsn_rules.proofs.LawfulMeaning.{lawful_meaning}
use Rattle.wsn_rules.proofs.PlanTheory.RecutFrames.{recut_is_lawful, recut_is_finished, recut_means, recut_is_accepted}
use Rattle.wsn_rules.proofs.laws.law_recut.Goals as goal

pub returns-clause-events : goal.returns-clause-events
returns-clause-events c = λ role limits plan events lawful is_plan fits. (
  recut_is_lawful role limits events plan lawful is_plan fits,
  recut_is_finished role limits events plan lawful is_plan fits,
  recut_means role limits events plan lawful is_plan fits,
  recut_is_accepted role limits events plan lawful is_plan fits,
)

pub returns-clause-inputs : goal.returns-clause-inputs
returns-clause-inputs c = λ role limits bytes fs plan range accepted is_plan fits.
    let lawful = lawful_meaning role limits fs accepted.lawful range in
    (recut_is_accepted role limits (meaning fs) plan lawful is_plan fits, recut_means role limits (meaning fs) plan lawful is_plan fits)
