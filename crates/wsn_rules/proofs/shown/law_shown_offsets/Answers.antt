use Rattle.wsn_rules.proofs.ShownOffsets.{all_in_place}
use Rattle.wsn_rules.proofs.ShownHeads.{heads_in_place}
use Rattle.wsn_rules.proofs.shown.law_shown_offsets.Goals as goal

pub returns-clause-events : goal.returns-clause-events
returns-clause-events c = all_in_place

pub returns-clause-heads : goal.returns-clause-heads
returns-clause-heads c = heads_in_place
