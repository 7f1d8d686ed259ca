use Rattle.std.proofs.Common.{rules}
use Rattle.wsn_text.proofs.expected.Expected.if_within.Goals as goal

pub returns-else-contains : goal.returns-else-contains
returns-else-contains c = search rules

pub returns-then-contains : goal.returns-then-contains
returns-then-contains c = search rules
