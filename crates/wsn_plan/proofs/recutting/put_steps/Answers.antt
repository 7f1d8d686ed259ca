use Rattle.std.proofs.Common.{◌≡◌, List, subst, None, Err, map, drop, get_or, refl, arith, rules, ap, ◌∙◌}
use Rattle.std.proofs.lemmas.Result.{err_from_is_err_and}
use Rattle.std.proofs.KnownBytes.{Appends-nil}
use Rattle.wsn_wire.specs.declared.length_encoding.Form.TheVariants.{Shortest}
use Rattle.wsn_rules.specs.declared.step.Step.TheVariants.{Piece}
use Rattle.wsn_rules.proofs.PlanTheory.Walked.{walked_start}
use Rattle.wsn_wire.specs.Frame.{frame_bytes}
use Rattle.wsn_io.specs.Transfer.{IsWritten, IsPartlyWritten}
use Rattle.wsn_rules.specs.Meaning.{MeantEvent}
use Rattle.wsn_plan.specs.Gathering.{kept_meant}
use Rattle.wsn_plan.specs.Framing.{frame_here}
use Rattle.wsn_plan.proofs.WalkedSteps.{few_more}
use Rattle.wsn_plan.proofs.RecutSoFar.{held_fits, may_here, form_here, small_here, way_on, written_on, partly_on, all_written}
use Rattle.wsn_plan.proofs.recutting.put_steps.Goals as goal

pub loop-step-init : goal.loop-step-init
loop-step-init g c = record {
  same = refl;
  placed = c.start-walk.ensures.placed;
  way = record {
    within = c.requires.fits;
    follows = rw (c.start-walk.ensures.start.0, c.start-walk.ensures.start.1, c.start-walk.ensures.start.2) (walked_start c.requires.fits.role c.requires.fits.limits (map kept_meant c.args.events.now));
  };
  few = omega (arith, c.start-walk.ensures.start.0);
  small = omega (arith, c.start-walk.ensures.start.1);
  written = (c.requires.unfailed, Appends-nil c.args.output.now.written);
}

pub put_step-requires : goal.put_step-requires
put_step-requires g c = record {
  may = rw c.loop-step.invariant.same (may_here (map kept_meant c.args.events.now) c.args.steps.now c.loop-step.step-index c.loop-step.walk c.loop-step.invariant.way (Piece 0 None Shortest) c.loop-step-test.true);
  form = rw c.loop-step.invariant.same (form_here (map kept_meant c.args.events.now) c.args.steps.now c.loop-step.step-index c.loop-step.walk c.loop-step.invariant.way (Piece 0 None Shortest) c.loop-step-test.true);
  held = rw c.loop-step.invariant.same (held_fits (map kept_meant c.args.events.now) c.args.steps.now c.loop-step.step-index c.loop-step.walk c.loop-step.invariant.way);
  lawful = rw c.loop-step.invariant.same (c.requires.fits.limits.message, c.requires.fits.lawful);
  unfailed = search rules;
  placed = search rules;
}

pub returns-in_err-put_step : goal.returns-in_err-put_step
returns-in_err-put_step g c =
    let out = err_from_is_err_and c.from_residual.result c.from_residual.ensures.1 in
    let is : c.from_residual.result ≡ Err c.in_err-put_step.field-0.0 = out.1 ∙ ap Err out.2 in
    let partly = subst (λ (es : List MeantEvent). IsPartlyWritten c.loop-step.output c.put_step.new.output (frame_bytes (frame_here c.loop-step.walk (drop c.loop-step.walk.event es) (get_or c.args.steps.now c.loop-step.step-index (Piece 0 None Shortest))))) c.loop-step.invariant.same c.in_err-put_step.ensures.put.1 in
    rw is (c.in_err-put_step.ensures.put.0, partly_on (map kept_meant c.args.events.now) c.args.steps.now c.loop-step.step-index c.loop-step.walk c.loop-step.invariant.way (Piece 0 None Shortest) c.loop-step-test.true c.args.output.now c.loop-step.output c.put_step.new.output c.loop-step.invariant.written partly)

pub take-requires : goal.take-requires
take-requires g c = record {
  may = rw (c.in_ok-put_step.ensures.same, c.loop-step.invariant.same) (may_here (map kept_meant c.args.events.now) c.args.steps.now c.loop-step.step-index c.loop-step.walk c.loop-step.invariant.way (Piece 0 None Shortest) c.loop-step-test.true);
  small = small_here (map kept_meant c.args.events.now) c.args.steps.now c.loop-step.step-index c.loop-step.walk c.loop-step.invariant.way (Piece 0 None Shortest) c.loop-step-test.true c.loop-step.invariant.small;
  placed = search rules;
  few = search rules;
}

pub loop-step-preserved : goal.loop-step-preserved
loop-step-preserved g c =
    let put = subst (λ (es : List MeantEvent). IsWritten c.loop-step.output c.put_step.new.output (frame_bytes (frame_here c.loop-step.walk (drop c.loop-step.walk.event es) (get_or c.args.steps.now c.loop-step.step-index (Piece 0 None Shortest))))) c.loop-step.invariant.same c.in_ok-put_step.ensures.put in
    record {
      same = cc;
      placed = c.take.ensures.placed;
      way = way_on (map kept_meant c.args.events.now) c.args.steps.now c.loop-step.step-index c.loop-step.walk c.loop-step.invariant.way (Piece 0 None Shortest) c.loop-step-test.true c.take.new.self c.take.ensures.taken;
      few = omega (arith, c.take.ensures.taken.0, few_more c.loop-step.walk.pieces (get_or c.args.steps.now c.loop-step.step-index (Piece 0 None Shortest)), c.loop-step.invariant.few);
      small = rw c.take.ensures.taken.1 (small_here (map kept_meant c.args.events.now) c.args.steps.now c.loop-step.step-index c.loop-step.walk c.loop-step.invariant.way (Piece 0 None Shortest) c.loop-step-test.true c.loop-step.invariant.small);
      written = written_on (map kept_meant c.args.events.now) c.args.steps.now c.loop-step.step-index c.loop-step.walk c.loop-step.invariant.way (Piece 0 None Shortest) c.loop-step-test.true c.args.output.now c.loop-step.output c.put_step.new.output c.loop-step.invariant.written put;
    }

pub returns : goal.returns
returns g c = all_written (map kept_meant c.args.events.now) c.args.steps.now c.loop-step.step-index c.loop-step.walk c.loop-step.invariant.way c.args.output.now c.loop-step.output (omega arith) c.loop-step.invariant.written

pub offset_bounds-steps-step-index : goal.offset_bounds-steps-step-index
offset_bounds-steps-step-index g c = search rules
