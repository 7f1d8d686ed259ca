use Rattle.wsn_rules.proofs.PlanTheory.UniformFits.{uniform_fits}
use Rattle.wsn_rules.proofs.PlanTheory.UniformFaults.{uniform_is_plan, uniform_fault, uniform_fits_or_too_many}
use Rattle.wsn_rules.proofs.uniform_plans.law_uniform_plan_fits.Goals as goal

pub returns : goal.returns
returns c = record {
  plan = uniform_is_plan;
  unbounded = λ role limits size weave key events any keyed. uniform_fits role limits size weave key any keyed events;
  bounded = λ role limits size weave key events range keyed. uniform_fits_or_too_many role limits events size weave key range keyed;
  only_fault = λ role limits size weave key events keyed step why. uniform_fault role limits events size weave key keyed step why;
}
