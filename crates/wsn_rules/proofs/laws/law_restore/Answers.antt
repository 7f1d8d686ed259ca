use Rattle.wsn_rules.proofs.PlanTheory.PlansOfFrames.{plan_of_is_plan, plan_of_fits, plan_of_restores}
use Rattle.wsn_rules.proofs.PlanTheory.PlansOfRecuts.{plan_of_recut, same_plan, spell_iff_recut}
use Rattle.wsn_rules.proofs.laws.law_restore.Goals as goal

pub returns : goal.returns
returns c = record {
  fits = λ role limits fs lawful finished. (plan_of_is_plan role limits fs lawful, plan_of_fits role limits fs lawful finished);
  restores = plan_of_restores;
  own_plan = λ role limits events plan lawful fits. plan_of_recut role limits events lawful plan fits;
  differ = λ role limits events plan other lawful is_plan also fits too different same.
      different (same_plan role limits events lawful plan other is_plan also fits too same);
  encodings = λ role limits events bytes lawful. spell_iff_recut role limits events lawful bytes;
}
