use Rattle.wsn_events.specs.SourceStates.{events_ahead}
use Rattle.wsn_events.proofs.Normalising.{HasWritten}
use Rattle.wsn_events.proofs.normalisation.normalise.Given as goal

-- The source has read what came, and the normal form of the events that it gave was written.
abbrev pub invariant-loop-source : goal.invariant-loop-source
invariant-loop-source g l = HasWritten l.fn.role l.fn.limits l.fn.input l.input l.fn.output l.output l.source

abbrev pub decreases-loop-source : goal.decreases-loop-source
decreases-loop-source g l = events_ahead l.source
