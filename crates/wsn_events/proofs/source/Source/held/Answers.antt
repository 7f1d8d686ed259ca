use Rattle.std.proofs.Common.{ap, ◌∙◌}
use Rattle.wsn_events.specs.SourceStates.{held_of}
use Rattle.wsn_events.proofs.source.Source.held.Goals as goal

pub returns : goal.returns
returns g c = c.held.ensures ∙ ap held_of c.self.view_is
