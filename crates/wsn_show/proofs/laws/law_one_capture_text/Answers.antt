use Rattle.wsn_show.proofs.EveryText.{some_text}
use Rattle.wsn_show.proofs.OneText.{one_ended_by, one_text}
use Rattle.wsn_show.proofs.laws.law_one_capture_text.Goals as goal

pub returns-clause-some : goal.returns-clause-some
returns-clause-some c = some_text

pub returns-clause-ended_by : goal.returns-clause-ended_by
returns-clause-ended_by c = one_ended_by

pub returns-clause-text : goal.returns-clause-text
returns-clause-text c = one_text
