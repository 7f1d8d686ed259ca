use Rattle.std.proofs.Common.{rules}
use Rattle.wsn_print.proofs.people_reports.ended_streams.closer.Goals as goal

pub returns-in-Some : goal.returns-in-Some
returns-in-Some c = search rules
