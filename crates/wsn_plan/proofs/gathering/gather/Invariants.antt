use Rattle.wsn_events.specs.SourceStates.{events_ahead}
use Rattle.wsn_plan.proofs.GatheredEvents.{HasGathered}
use Rattle.wsn_plan.proofs.gathering.gather.Given as goal

-- The source has read what came, and the events that it gave are kept.
abbrev pub invariant-loop-kind : goal.invariant-loop-kind
invariant-loop-kind g l = HasGathered l.fn.role l.fn.limits l.fn.input l.input l.source l.events.items

abbrev pub decreases-loop-kind : goal.decreases-loop-kind
decreases-loop-kind g l = events_ahead l.source
