use Rattle.std.proofs.Common.{rules}
use Rattle.wsn_events.proofs.reassembly.Reassembly.begin_frame.Goals as goal

pub returns-in-Text : goal.returns-in-Text
returns-in-Text g c = search rules

pub clear-requires : goal.clear-requires
clear-requires g c = search rules

pub returns-in-Binary : goal.returns-in-Binary
returns-in-Binary g c = search rules

pub returns-in-Continue : goal.returns-in-Continue
returns-in-Continue g c = search rules

pub returns-in_default : goal.returns-in_default
returns-in_default g c = search rules
