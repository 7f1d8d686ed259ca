use Rattle.std.proofs.Common.{rules}
use Rattle.wsn_shown_text.proofs.people.arrow_of.Goals as goal

pub returns-in-Client : goal.returns-in-Client
returns-in-Client c = search rules
