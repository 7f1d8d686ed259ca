use Rattle.wsn_capture.proofs.SideLaws.{sent_in-longer, sent_in-stopped}
use Rattle.wsn_capture.proofs.laws.law_longer_side.Goals as goal

pub returns-clause-accepted : goal.returns-clause-accepted
returns-clause-accepted c = λ role limits lines given later most. sent_in-longer limits most role lines given later

pub returns-clause-faulty : goal.returns-clause-faulty
returns-clause-faulty c = λ role limits lines line fault later most. sent_in-stopped limits most role lines line fault later
