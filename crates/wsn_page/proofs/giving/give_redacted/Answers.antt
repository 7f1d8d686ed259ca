use Rattle.std.proofs.Common.{rules}
use Rattle.wsn_page.proofs.giving.give_redacted.Goals as goal

pub returns-in-Ok : goal.returns-in-Ok
returns-in-Ok c = search rules
