use Rattle.wsn_rules.proofs.ShownStreams.{shown_goes_on}
use Rattle.wsn_rules.proofs.shown.law_shown_goes_on.Goals as goal

pub returns : goal.returns
returns c detail role limits bytes more shown longer is also = shown_goes_on role limits detail bytes more shown longer is also
