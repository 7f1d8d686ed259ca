use Rattle.wsn_rules.proofs.ShownStreams.{one_shown, events_are_meaning, heads_are_reported}
use Rattle.wsn_rules.proofs.shown.law_shown_stream.Goals as goal

pub returns : goal.returns
returns c = record {
  one = λ detail role limits bytes shown other is also. one_shown role limits detail bytes shown other is also;
  events = events_are_meaning;
  heads = heads_are_reported;
}
