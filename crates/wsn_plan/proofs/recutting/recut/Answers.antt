use Rattle.std.proofs.Common.{◌≡◌, Err, List, map, subst, ap, ◌∙◌}
use Rattle.std.proofs.lemmas.Result.{err_from_is_err_and}
use Rattle.wsn_rules.specs.declared.step.Step.{Step}
use Rattle.wsn_plan.specs.declared.kept.Kept.{Kept}
use Rattle.wsn_plan.specs.Gathering.{kept_meant}
use Rattle.wsn_plan.specs.Recutting.{IsRefragmented}
use Rattle.wsn_plan.proofs.Recuts.{stopped_before, isnt_accepted, are_lawful, cut, whole_recut}
use Rattle.wsn_plan.proofs.recutting.recut.Goals as goal

pub returns-in_err-verdict-clause-whole : goal.returns-in_err-verdict-clause-whole
returns-in_err-verdict-clause-whole g c =
    let out = err_from_is_err_and c.from_residual.result c.from_residual.ensures.1 in
    let is : c.from_residual.result ≡ Err c.in_err-verdict.field-0.0 = out.1 ∙ ap Err out.2 in
    rw is (λ all known. whole_recut c.args.role c.args.limits (λ _. c.args.plan.now) c.args.input.now c.gather.new.input c.args.output.now c.args.output.now (Err c.in_err-verdict.field-0.0) all
    (stopped_before c.args.role c.args.limits (λ _. c.args.plan.now) c.args.input.now c.gather.new.input c.args.output.now c.in_err-verdict.field-0.0 c.in_err-verdict.ensures) known)

pub returns-in_default : goal.returns-in_default
returns-in_default g c =
    let has_reported = isnt_accepted c.args.role c.args.limits (λ _. c.args.plan.now) c.args.input.now c.gather.new.input c.args.output.now c.in_ok-verdict.field-0 c.in_ok-verdict.ensures (λ s is. c.in_default.not-Accepted s is) in
    record {
      recut = has_reported;
      whole = λ all known. whole_recut c.args.role c.args.limits (λ _. c.args.plan.now) c.args.input.now c.gather.new.input c.args.output.now c.args.output.now _ all has_reported known;
    }

pub refragment-requires-clause-lawful : goal.refragment-requires-clause-lawful
refragment-requires-clause-lawful g c = rw c.deref_mut.ensures.value (are_lawful c.args.role c.args.limits (λ _. c.args.plan.now) c.args.input.now c.gather.new.input c.args.output.now c.in_ok-verdict.field-0 c.in_ok-verdict.ensures c.in-Accepted.field-0 c.in-Accepted.is)

pub returns : goal.returns
returns g c = record {
  recut = let steps = subst (λ (steps : List Step). IsRefragmented c.args.role c.args.limits steps (map kept_meant c.deref_mut.result.now) c.args.output.now c.refragment.new.output c.refragment.result) c.steps.ensures.steps c.refragment.ensures in
      let did = subst (λ (es : List (Kept _)). IsRefragmented c.args.role c.args.limits c.args.plan.now (map kept_meant es) c.args.output.now c.refragment.new.output c.refragment.result) c.deref_mut.ensures.value steps in
      let has_reported = cut c.args.role c.args.limits (λ _. c.args.plan.now) c.args.input.now c.gather.new.input c.args.output.now c.in_ok-verdict.field-0 c.in_ok-verdict.ensures c.in-Accepted.field-0 c.in-Accepted.is c.refragment.new.output c.refragment.result did in
      has_reported;
  whole = let steps = subst (λ (steps : List Step). IsRefragmented c.args.role c.args.limits steps (map kept_meant c.deref_mut.result.now) c.args.output.now c.refragment.new.output c.refragment.result) c.steps.ensures.steps c.refragment.ensures in
      let did = subst (λ (es : List (Kept _)). IsRefragmented c.args.role c.args.limits c.args.plan.now (map kept_meant es) c.args.output.now c.refragment.new.output c.refragment.result) c.deref_mut.ensures.value steps in
      let has_reported = cut c.args.role c.args.limits (λ _. c.args.plan.now) c.args.input.now c.gather.new.input c.args.output.now c.in_ok-verdict.field-0 c.in_ok-verdict.ensures c.in-Accepted.field-0 c.in-Accepted.is c.refragment.new.output c.refragment.result did in
      λ all known. whole_recut c.args.role c.args.limits (λ _. c.args.plan.now) c.args.input.now c.gather.new.input c.args.output.now c.refragment.new.output c.refragment.result all has_reported known;
}
