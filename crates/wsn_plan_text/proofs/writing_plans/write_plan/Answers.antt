use Rattle.std.proofs.Common.{◌≡◌, None, [], take, ap, ◌∙◌, rules, arith}
use Rattle.std.proofs.KnownBytes.{Appends-nil}
use Rattle.std.proofs.lemmas.List.{take_all}
use Rattle.wsn_wire.specs.declared.length_encoding.Form.TheVariants.{Shortest}
use Rattle.wsn_rules.specs.declared.step.Step.TheVariants.{Piece}
use Rattle.wsn_plan_text.specs.PlanText.{plan_text}
use Rattle.wsn_print.proofs.Gathered.{gathering_ended}
use Rattle.wsn_plan_text.proofs.WrittenPlans.{plan_goes_on, plan_stopped}
use Rattle.wsn_plan_text.proofs.writing_plans.write_plan.Goals as goal

pub loop-step-init : goal.loop-step-init
loop-step-init g c = ([], c.new-lines.ensures, (c.requires, Appends-nil c.args.output.now.written))

pub returns-in_err-make_room : goal.returns-in_err-make_room
returns-in_err-make_room g c =
    let held = c.in_err-make_room.ensures.kept in
    rw (← c.steps-step-items.ensures.steps)
    (plan_stopped c.args.output.now c.loop-step.output c.make_room.new.to c.steps-step-items.result.now c.loop-step.step-index c.loop-step.lines held.0 c.make_room.new.self
    c.in_err-make_room.field-0.0 c.from_residual.result c.loop-step.invariant held.1 held.2 c.from_residual.ensures.1)

pub loop-step-preserved : goal.loop-step-preserved
loop-step-preserved g c =
    let plan = c.steps-step-items.result.now in
    let k = c.loop-step.step-index in
    plan_goes_on c.args.output.now c.loop-step.output c.make_room.new.to plan k (Piece 0 None Shortest) c.loop-step.lines c.make_room.new.self c.add_step.new.lines
    c.loop-step-test.true c.loop-step.invariant c.in_ok-make_room.ensures.kept c.add_step.ensures

pub returns : goal.returns
returns g c =
    let plan = c.steps-step-items.result.now in
    let whole : plan_text (take c.loop-step.step-index plan) ≡ plan_text c.args.plan.now =
    ap plan_text (take_all c.loop-step.step-index plan (omega (arith, c.loop-step-test.false)) ∙ c.steps-step-items.ensures.steps) in
    rw (← whole)
    (gathering_ended c.args.output.now c.loop-step.output c.write_to.new.to (plan_text (take c.loop-step.step-index plan)) c.loop-step.lines c.write_to.result
    c.loop-step.invariant c.write_to.ensures.written)

pub offset_bounds-step-items-step-index : goal.offset_bounds-step-items-step-index
offset_bounds-step-items-step-index g c = search rules

pub new-lines-requires : goal.new-lines-requires
new-lines-requires g c = search rules

pub make_room-requires : goal.make_room-requires
make_room-requires g c = let unfailed = c.loop-step.invariant.2.0 in search rules

pub add_step-requires : goal.add_step-requires
add_step-requires g c = c.make_room.ensures.room

pub write_to-requires : goal.write_to-requires
write_to-requires g c = let unfailed = c.loop-step.invariant.2.0 in search rules
