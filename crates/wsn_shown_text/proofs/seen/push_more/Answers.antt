use Rattle.std.proofs.Common.{rules}
use Rattle.wsn_shown_text.proofs.seen.push_more.Goals as goal

pub returns-else-more-clause-text : goal.returns-else-more-clause-text
returns-else-more-clause-text c = search rules
