use Rattle.wsn_laws.proofs.AlikeCaptureRedactions.{alike_captures_are_one, one_capture_alike}
use Rattle.wsn_laws.proofs.CapturesTwice.{capture_twice}
use Rattle.wsn_laws.proofs.alike_laws.law_alike_captures_have_one_redaction.Goals as goal

pub returns : goal.returns
returns c = record {
  one = alike_captures_are_one;
  alike = one_capture_alike;
  own = λ limits lines redacted is. one_capture_alike limits lines redacted redacted is (capture_twice limits lines redacted is);
}
