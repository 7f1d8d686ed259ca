use Rattle.wsn_rules.proofs.OneShownCapture.{one_left, one_time, one_last_time, one_shown_after, one_shown_capture}
use Rattle.wsn_rules.proofs.shown.law_one_shown_capture.Goals as goal

pub returns : goal.returns
returns c = record {
  left = one_left;
  time = one_time;
  last_time = one_last_time;
  lines = one_shown_after;
  capture = one_shown_capture;
}
