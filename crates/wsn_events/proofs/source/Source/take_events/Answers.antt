use Rattle.std.proofs.Common.{ap, ◌∙◌}
use Rattle.wsn_scan.specs.declared.frame_reader.FrameReader.{FrameReader}
use Rattle.wsn_events.specs.SourceStates.{answered}
use Rattle.wsn_events.proofs.SourceCalls.{state_of, has_inside, reading_of}
use Rattle.wsn_events.proofs.TakenEvents.{read_on, takes_after, at_work_after}
use Rattle.wsn_events.proofs.source.Source.take_events.Goals as goal

pub take_events-requires : goal.take_events-requires
take_events-requires g c = reading_of (state_of c.self.inside) (c.self.invariant (ap answered c.self.view_is ∙ c.requires))

pub returns-clause-taken : goal.returns-clause-taken
returns-clause-taken g c is role limits came given has =
    let inside = has_inside c.self.inside c.args.self.now c.self.view_is role limits came given has in
    takes_after role limits (state_of c.self.inside) c.take_events.new.self came given inside (c.take_events.ensures.taken is role limits came inside.frames inside.position inside.has_taken)

pub invariant_of-self : goal.invariant_of-self
invariant_of-self g c none =
    at_work_after (state_of c.self.inside) _ c.take_events.result (c.self.invariant none)
    (λ is role limits came given has. takes_after role limits (state_of c.self.inside) c.take_events.new.self came given has (c.take_events.ensures.taken is role limits came has.frames has.position has.has_taken))
    (λ is. ap (λ (r : FrameReader). read_on (state_of c.self.inside) r) (c.take_events.ensures.none is))
