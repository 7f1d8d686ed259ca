use Rattle.std.proofs.Common.{◌≡◌, ◌<◌, Result, Err, List, length, ap, map, ◌∙◌, subst}
use Rattle.std.proofs.lemmas.Result.{err_from_is_err_and}
use Rattle.wsn_rules.specs.declared.step.Step.{Step}
use Rattle.wsn_rules.proofs.PlanTheory.UniformFaults.{uniform_fault}
use Rattle.wsn_io.specs.declared.stop.Stop.{Stop}
use Rattle.wsn_plan.specs.declared.kept.Kept.{Kept}
use Rattle.wsn_rules.specs.UniformPlan.{uniform_plan}
use Rattle.wsn_plan.specs.Gathering.{kept_meant}
use Rattle.wsn_plan.specs.declared.recutting.RecutAnswer.{RecutAnswer}
use Rattle.wsn_plan.specs.Recutting.{IsRefragmented}
use Rattle.wsn_plan.proofs.Recuts.{stopped_before, isnt_accepted, are_lawful, no_memory, cut, whole_recut}
use Rattle.wsn_plan.proofs.recutting.recut_uniform.Goals as goal

pub returns-in_err-verdict-clause-whole : goal.returns-in_err-verdict-clause-whole
returns-in_err-verdict-clause-whole g c =
    let out = err_from_is_err_and c.from_residual.result c.from_residual.ensures.1 in
    let is : c.from_residual.result ≡ Err c.in_err-verdict.field-0.0 = out.1 ∙ ap Err out.2 in
    rw is (λ all known. whole_recut c.args.role c.args.limits (uniform_plan c.args.frames.size c.args.frames.weave c.args.frames.key) c.args.input.now c.gather.new.input c.args.output.now c.args.output.now (Err c.in_err-verdict.field-0.0) all
    (stopped_before c.args.role c.args.limits (uniform_plan c.args.frames.size c.args.frames.weave c.args.frames.key) c.args.input.now c.gather.new.input c.args.output.now c.in_err-verdict.field-0.0 c.in_err-verdict.ensures) known)

pub returns-in_default : goal.returns-in_default
returns-in_default g c =
    let has_reported = isnt_accepted c.args.role c.args.limits (uniform_plan c.args.frames.size c.args.frames.weave c.args.frames.key) c.args.input.now c.gather.new.input c.args.output.now c.in_ok-verdict.field-0 c.in_ok-verdict.ensures (λ s is. c.in_default.not-Accepted s is) in
    record {
      recut = has_reported;
      whole = λ all known. whole_recut c.args.role c.args.limits (uniform_plan c.args.frames.size c.args.frames.weave c.args.frames.key) c.args.input.now c.gather.new.input c.args.output.now c.args.output.now _ all has_reported known;
      only_fault = λ step why is. absurd (cc);
    }

pub refragment-requires-clause-lawful : goal.refragment-requires-clause-lawful
refragment-requires-clause-lawful g c = rw c.deref_mut.ensures.value (are_lawful c.args.role c.args.limits (uniform_plan c.args.frames.size c.args.frames.weave c.args.frames.key) c.args.input.now c.gather.new.input c.args.output.now c.in_ok-verdict.field-0 c.in_ok-verdict.ensures c.in-Accepted.field-0 c.in-Accepted.is)

pub returns-in_err-plan-clause-recut : goal.returns-in_err-plan-clause-recut
returns-in_err-plan-clause-recut g c =
    let out = err_from_is_err_and c.from_residual-in_err-plan.result c.from_residual-in_err-plan.ensures.1 in
    let is : c.from_residual-in_err-plan.result ≡ Err c.in_err-plan.field-0.0 = out.1 ∙ ap Err out.2 in
    let some : 0 < length c.in_ok-verdict.field-0.events.items = subst (λ (es : List (Kept _)). 0 < length es) c.deref.ensures.value c.in_err-plan.ensures.stop.1 in
    rw (is, c.in_err-plan.ensures.stop.0) (no_memory c.args.role c.args.limits (uniform_plan c.args.frames.size c.args.frames.weave c.args.frames.key) c.args.input.now c.gather.new.input c.args.output.now c.in_ok-verdict.field-0 c.in_ok-verdict.ensures c.in-Accepted.field-0 c.in-Accepted.is some)

pub returns : goal.returns
returns g c = record {
  recut = let same : c.steps.result.now ≡ uniform_plan c.args.frames.size c.args.frames.weave c.args.frames.key (map kept_meant c.in_ok-verdict.field-0.events.items) =
      c.steps.ensures.steps ∙ c.in_ok-plan.ensures.plan ∙ ap (λ (es : List (Kept _)). uniform_plan c.args.frames.size c.args.frames.weave c.args.frames.key (map kept_meant es)) c.deref.ensures.value in
      let steps = subst (λ (steps : List Step). IsRefragmented c.args.role c.args.limits steps (map kept_meant c.deref_mut.result.now) c.args.output.now c.refragment.new.output c.refragment.result) same c.refragment.ensures in
      let did = subst (λ (es : List (Kept _)). IsRefragmented c.args.role c.args.limits (uniform_plan c.args.frames.size c.args.frames.weave c.args.frames.key (map kept_meant c.in_ok-verdict.field-0.events.items)) (map kept_meant es) c.args.output.now c.refragment.new.output c.refragment.result) c.deref_mut.ensures.value steps in
      let has_reported = cut c.args.role c.args.limits (uniform_plan c.args.frames.size c.args.frames.weave c.args.frames.key) c.args.input.now c.gather.new.input c.args.output.now c.in_ok-verdict.field-0 c.in_ok-verdict.ensures c.in-Accepted.field-0 c.in-Accepted.is c.refragment.new.output c.refragment.result did in
      has_reported;
  whole = let same : c.steps.result.now ≡ uniform_plan c.args.frames.size c.args.frames.weave c.args.frames.key (map kept_meant c.in_ok-verdict.field-0.events.items) =
      c.steps.ensures.steps ∙ c.in_ok-plan.ensures.plan ∙ ap (λ (es : List (Kept _)). uniform_plan c.args.frames.size c.args.frames.weave c.args.frames.key (map kept_meant es)) c.deref.ensures.value in
      let steps = subst (λ (steps : List Step). IsRefragmented c.args.role c.args.limits steps (map kept_meant c.deref_mut.result.now) c.args.output.now c.refragment.new.output c.refragment.result) same c.refragment.ensures in
      let did = subst (λ (es : List (Kept _)). IsRefragmented c.args.role c.args.limits (uniform_plan c.args.frames.size c.args.frames.weave c.args.frames.key (map kept_meant c.in_ok-verdict.field-0.events.items)) (map kept_meant es) c.args.output.now c.refragment.new.output c.refragment.result) c.deref_mut.ensures.value steps in
      let has_reported = cut c.args.role c.args.limits (uniform_plan c.args.frames.size c.args.frames.weave c.args.frames.key) c.args.input.now c.gather.new.input c.args.output.now c.in_ok-verdict.field-0 c.in_ok-verdict.ensures c.in-Accepted.field-0 c.in-Accepted.is c.refragment.new.output c.refragment.result did in
      λ all known. whole_recut c.args.role c.args.limits (uniform_plan c.args.frames.size c.args.frames.weave c.args.frames.key) c.args.input.now c.gather.new.input c.args.output.now c.refragment.new.output c.refragment.result all has_reported known;
  only_fault = let same : c.steps.result.now ≡ uniform_plan c.args.frames.size c.args.frames.weave c.args.frames.key (map kept_meant c.in_ok-verdict.field-0.events.items) =
      c.steps.ensures.steps ∙ c.in_ok-plan.ensures.plan ∙ ap (λ (es : List (Kept _)). uniform_plan c.args.frames.size c.args.frames.weave c.args.frames.key (map kept_meant es)) c.deref.ensures.value in
      let steps = subst (λ (steps : List Step). IsRefragmented c.args.role c.args.limits steps (map kept_meant c.deref_mut.result.now) c.args.output.now c.refragment.new.output c.refragment.result) same c.refragment.ensures in
      let did = subst (λ (es : List (Kept _)). IsRefragmented c.args.role c.args.limits (uniform_plan c.args.frames.size c.args.frames.weave c.args.frames.key (map kept_meant c.in_ok-verdict.field-0.events.items)) (map kept_meant es) c.args.output.now c.refragment.new.output c.refragment.result) c.deref_mut.ensures.value steps in
      λ step why is.
      uniform_fault c.args.role c.args.limits (map kept_meant c.in_ok-verdict.field-0.events.items) c.args.frames.size c.args.frames.weave c.args.frames.key c.requires.key step why
      (subst (λ (r : Result RecutAnswer Stop). IsRefragmented c.args.role c.args.limits (uniform_plan c.args.frames.size c.args.frames.weave c.args.frames.key (map kept_meant c.in_ok-verdict.field-0.events.items)) (map kept_meant c.in_ok-verdict.field-0.events.items) c.args.output.now c.refragment.new.output r) is did).0;
}
