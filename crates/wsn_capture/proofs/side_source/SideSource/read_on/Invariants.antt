use Rattle.std.proofs.Common.{◌≡◌}
use Rattle.std.specs.Prelude.{IsSome}
use Rattle.std.specs.Io.KnownBytes.{Keeps}
use Rattle.wsn_capture.specs.SideStates.{source_left, steps_ahead}
use Rattle.wsn_capture.proofs.side_source.SideSource.read_on.Given as goal

-- what is left stays the same, and nothing changes after a faulty line
abbrev pub invariant-loop-self : goal.invariant-loop-self
invariant-loop-self g l = record {
  left : Keeps (source_left g.R.Read.remaining l.fn.self) (source_left g.R.Read.remaining l.self);
  faulty : IsSome l.fn.self.lines.side.fault → l.self ≡ l.fn.self;
}

abbrev pub decreases-loop-self : goal.decreases-loop-self
decreases-loop-self g l = steps_ahead l.self
