use Rattle.std.proofs.Common.{rules}
use Rattle.wsn_print.proofs.people_reports.refused_streams.is_refused_as.Goals as goal

pub returns-then-number : goal.returns-then-number
returns-then-number c = search rules
