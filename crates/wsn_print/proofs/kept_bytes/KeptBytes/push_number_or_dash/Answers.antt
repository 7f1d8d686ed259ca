use Rattle.std.proofs.Common.{rules}
use Rattle.wsn_print.proofs.kept_bytes.KeptBytes.push_number_or_dash.Goals as goal

pub returns-in-None-clause-text : goal.returns-in-None-clause-text
returns-in-None-clause-text g c = search rules

pub push_number-requires : goal.push_number-requires
push_number-requires c = search rules

pub push-requires : goal.push-requires
push-requires c = search rules

pub returns-in-Some-clause-text : goal.returns-in-Some-clause-text
returns-in-Some-clause-text c = search rules

pub returns-in-Some-clause-len : goal.returns-in-Some-clause-len
returns-in-Some-clause-len c = search rules

pub returns-in-None-clause-len : goal.returns-in-None-clause-len
returns-in-None-clause-len c = search rules
