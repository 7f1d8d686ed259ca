use Rattle.std.proofs.Common.{rules}
use Rattle.wsn_text.proofs.codes.code_allowed.Goals as goal

pub returns-in_default-3 : goal.returns-in_default-3
returns-in_default-3 c = search rules

pub returns-in-1000-to-1003 : goal.returns-in-1000-to-1003
returns-in-1000-to-1003 c = search rules

pub returns-in-1000-to-1003-2 : goal.returns-in-1000-to-1003-2
returns-in-1000-to-1003-2 c = search rules

pub returns-in-1000-to-1003-3 : goal.returns-in-1000-to-1003-3
returns-in-1000-to-1003-3 c = search rules

pub returns-in_default : goal.returns-in_default
returns-in_default c = search rules

pub returns-in_default-2 : goal.returns-in_default-2
returns-in_default-2 c = search rules

pub returns-in_default-4 : goal.returns-in_default-4
returns-in_default-4 c = search rules
