use Rattle.std.proofs.Common.{refl, ap}
use Rattle.wsn_events.specs.SourceStates.{answered, events_ahead}
use Rattle.wsn_events.proofs.GivenSoFar.{begun_sound}
use Rattle.wsn_events.proofs.SourceCalls.{state_of, has_inside, has_still}
use Rattle.wsn_events.proofs.source.Source.reuse.Goals as goal

pub returns-in-Message : goal.returns-in-Message
returns-in-Message g c = record {
  given = λ role limits came given has.
      has_still role limits (state_of c.self.inside) c.reuse.new.self came given c.reuse.ensures.same c.reuse.ensures.held (has_inside c.self.inside c.args.self.now c.self.view_is role limits came given has);
  answer = ap answered c.self.view_is;
  left = ap events_ahead c.self.view_is;
}

pub returns-in_default : goal.returns-in_default
returns-in_default g c = record { given = λ role limits came given has. has; answer = refl; left = refl }

pub invariant_of-self : goal.invariant_of-self
invariant_of-self g c none =
    let b = c.self.invariant none in
    begun_sound b.role b.limits _ b.came b.given (has_still b.role b.limits (state_of c.self.inside) c.reuse.new.self b.came b.given c.reuse.ensures.same c.reuse.ensures.held b.has)
