use Rattle.std.proofs.Common.{rules}
use Rattle.wsn_frame.proofs.heads.Head.form.Goals as goal

pub returns-in-Two : goal.returns-in-Two
returns-in-Two c = search rules

pub returns-in-Eight : goal.returns-in-Eight
returns-in-Eight c = search rules

pub returns-in_default : goal.returns-in_default
returns-in_default c = search rules

pub returns-in_default-2 : goal.returns-in_default-2
returns-in_default-2 c = search rules

pub returns-in_default-3 : goal.returns-in_default-3
returns-in_default-3 c = search rules
