use Rattle.wsn_rules.proofs.Walk.{stream-append}
use Rattle.wsn_rules.proofs.lists.law_stream_joins.Goals as goal

pub returns : goal.returns
returns c = stream-append
