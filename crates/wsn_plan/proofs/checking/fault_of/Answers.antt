use Rattle.std.proofs.Common.{None, map, take, drop, get_or, arith, rules}
use Rattle.std.proofs.lemmas.List.{length-map}
use Rattle.wsn_wire.specs.declared.length_encoding.Form.TheVariants.{Shortest}
use Rattle.wsn_rules.specs.declared.step.Step.TheVariants.{Piece}
use Rattle.wsn_rules.proofs.PlanTheory.Walked.{walked_start, walked_events_left, walked_fits}
use Rattle.wsn_plan.specs.Gathering.{kept_meant}
use Rattle.wsn_plan.proofs.EventsAhead.{some_left, none_left}
use Rattle.wsn_plan.proofs.WalkedSteps.{begins_on, consumes, held_is_small, fault_here, follows_on, at_the_end, few_more}
use Rattle.wsn_plan.proofs.checking.fault_of.Goals as goal

pub loop-index-init : goal.loop-index-init
loop-index-init g c = record {
  placed = c.start-walk.ensures.placed;
  follows = rw (c.start-walk.ensures.start.0, c.start-walk.ensures.start.1, c.start-walk.ensures.start.2) (walked_start c.args.role c.args.limits (map kept_meant c.args.events.now));
  few = omega (arith, c.start-walk.ensures.start.0);
  small = omega (arith, c.start-walk.ensures.start.1);
}

pub returns-in-Some : goal.returns-in-Some
returns-in-Some g c =
    fault_here c.args.role c.args.limits (map kept_meant c.args.events.now) c.args.steps.now c.loop-index.index (Piece 0 None Shortest) c.loop-index.walk c.in-Some.why c.loop-index-test.true c.loop-index.invariant.follows c.in-Some.ensures

pub take-requires : goal.take-requires
take-requires g c = record {
  may = let step = get_or c.args.steps.now c.loop-index.index (Piece 0 None Shortest) in
      let plan = take c.loop-index.index c.args.steps.now in
      consumes c.args.role c.args.limits (map kept_meant c.args.events.now) plan c.loop-index.walk step c.loop-index.invariant.follows
      (begins_on c.args.role c.args.limits (map kept_meant c.args.events.now) plan c.loop-index.walk step c.requires.range c.loop-index.invariant.follows c.in_default.ensures);
  small = let step = get_or c.args.steps.now c.loop-index.index (Piece 0 None Shortest) in
      let plan = take c.loop-index.index c.args.steps.now in
      held_is_small c.args.role c.args.limits (map kept_meant c.args.events.now) c.loop-index.walk step c.requires.range c.requires.lawful c.loop-index.invariant.small
      (consumes c.args.role c.args.limits (map kept_meant c.args.events.now) plan c.loop-index.walk step c.loop-index.invariant.follows
      (begins_on c.args.role c.args.limits (map kept_meant c.args.events.now) plan c.loop-index.walk step c.requires.range c.loop-index.invariant.follows c.in_default.ensures));
  placed = search rules;
  few = search rules;
}

pub loop-index-preserved : goal.loop-index-preserved
loop-index-preserved g c =
    let step = get_or c.args.steps.now c.loop-index.index (Piece 0 None Shortest) in
    let plan = take c.loop-index.index c.args.steps.now in
    let begins = begins_on c.args.role c.args.limits (map kept_meant c.args.events.now) plan c.loop-index.walk step c.requires.range c.loop-index.invariant.follows c.in_default.ensures in
    record {
      placed = c.take.ensures.placed;
      follows = follows_on c.args.role c.args.limits (map kept_meant c.args.events.now) c.args.steps.now c.loop-index.index (Piece 0 None Shortest) c.loop-index.walk c.take.new.self c.loop-index-test.true c.loop-index.invariant.follows begins c.take.ensures.taken;
      few = omega (arith, c.take.ensures.taken.0, few_more c.loop-index.walk.pieces step, c.loop-index.invariant.few);
      small = rw c.take.ensures.taken.1 (held_is_small c.args.role c.args.limits (map kept_meant c.args.events.now) c.loop-index.walk step c.requires.range c.requires.lawful c.loop-index.invariant.small (consumes c.args.role c.args.limits (map kept_meant c.args.events.now) plan c.loop-index.walk step c.loop-index.invariant.follows begins));
    }

pub returns-then-walk-events : goal.returns-then-walk-events
returns-then-walk-events g c =
    let walk = c.loop-index.walk in
    let follows = at_the_end c.args.role c.args.limits (map kept_meant c.args.events.now) c.args.steps.now c.loop-index.index walk (omega arith) c.loop-index.invariant.follows in
    walked_events_left c.args.role c.args.limits (map kept_meant c.args.events.now) c.args.steps.now walk.pieces walk.held (drop walk.event (map kept_meant c.args.events.now)) follows
    (some_left walk c.args.events.now c.loop-index.invariant.placed (λ is. omega (arith, is, c.if-walk-events.true)))

pub returns : goal.returns
returns g c =
    let walk = c.loop-index.walk in
    let follows = at_the_end c.args.role c.args.limits (map kept_meant c.args.events.now) c.args.steps.now c.loop-index.index walk (omega arith) c.loop-index.invariant.follows in
    walked_fits c.args.role c.args.limits (map kept_meant c.args.events.now) c.args.steps.now walk.pieces walk.held (drop walk.event (map kept_meant c.args.events.now)) follows
    (none_left walk c.args.events.now c.loop-index.invariant.placed
    (let within = c.loop-index.invariant.placed.event in omega (arith, within, length-map c.args.events.now kept_meant, c.if-walk-events.false)))

pub offset_bounds-steps-index : goal.offset_bounds-steps-index
offset_bounds-steps-index g c = search rules

pub bounds-steps-index : goal.bounds-steps-index
bounds-steps-index g c = search rules

pub reason_against-requires : goal.reason_against-requires
reason_against-requires g c = record { placed = search rules; few = search rules }
