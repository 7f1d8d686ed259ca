use Rattle.std.proofs.Common.{map, subst, rules}
use Rattle.wsn_plan.specs.Gathering.{kept_meant}
use Rattle.wsn_plan.specs.Walking.{IsApplicable}
use Rattle.wsn_plan.proofs.EventsAhead.{placed_control}
use Rattle.wsn_plan.proofs.walking.Walk.take.Goals as goal

pub returns-in-Control-clause-placed : goal.returns-in-Control-clause-placed
returns-in-Control-clause-placed g c =
    placed_control c.args.self.now c.args.events.now c.requires.placed (subst (IsApplicable c.args.self.now (map kept_meant c.args.events.now)) c.in-Control.is c.requires.may)

pub returns-in-Last-clause-taken : goal.returns-in-Last-clause-taken
returns-in-Last-clause-taken g c = search rules
