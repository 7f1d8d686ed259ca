use Rattle.wsn_rules.proofs.EveryShown.{some_left, some_shown}
use Rattle.wsn_rules.proofs.EveryCapture.{some_shown_capture}
use Rattle.wsn_rules.proofs.shown.law_every_stream_is_shown.Goals as goal

pub returns : goal.returns
returns c = record {
  shown = λ detail role limits bytes range all. some_shown role limits range detail bytes all;
  left = λ role limits bytes range all. some_left role limits range bytes all;
  capture = λ detail limits lines entries report range are all is. some_shown_capture detail limits range lines entries report are all is;
}
