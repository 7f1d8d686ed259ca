use Rattle.std.proofs.Common.{rules}
use Rattle.wsn_page.proofs.giving.give.Goals as goal

pub returns : goal.returns
returns c = search rules
