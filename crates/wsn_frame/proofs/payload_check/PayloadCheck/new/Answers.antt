use Rattle.std.proofs.Common.{rules}
use Rattle.wsn_frame.proofs.payload_check.PayloadCheck.new.Goals as goal

pub returns-in-Some : goal.returns-in-Some
returns-in-Some c = search rules

pub returns-in-Text : goal.returns-in-Text
returns-in-Text c = search rules

pub returns-in-None : goal.returns-in-None
returns-in-None c = search rules

pub returns-in-Close : goal.returns-in-Close
returns-in-Close c = search rules

pub returns-in-Binary : goal.returns-in-Binary
returns-in-Binary c = search rules
