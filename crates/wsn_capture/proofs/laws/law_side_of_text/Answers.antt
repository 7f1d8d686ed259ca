use Rattle.wsn_capture.proofs.SideLaws.{sent_in-accepted, sent_in-faulty, sentinel_found}
use Rattle.wsn_capture.proofs.laws.law_side_of_text.Goals as goal

pub returns : goal.returns
returns c = record {
  accepted = λ role limits text lines given most. sent_in-accepted limits most role text lines given;
  faulty = λ role limits text number fault most. sent_in-faulty limits most role text number fault;
  sentinel = λ role limits text came number fault. sentinel_found limits role text came number fault;
}
