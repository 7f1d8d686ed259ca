use Rattle.std.proofs.Common.{rules}
use Rattle.wsn_print.proofs.people_reports.ended_streams.push_end.Goals as goal

pub returns-in-Cut-clause-text : goal.returns-in-Cut-clause-text
returns-in-Cut-clause-text c = search rules
