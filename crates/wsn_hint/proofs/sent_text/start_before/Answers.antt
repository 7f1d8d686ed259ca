use Rattle.std.proofs.Common.{rules}
use Rattle.wsn_hint.proofs.sent_text.start_before.Goals as goal

pub returns-clause-start : goal.returns-clause-start
returns-clause-start c = search rules

pub returns-clause-unfinished : goal.returns-clause-unfinished
returns-clause-unfinished c = search rules
