use Rattle.std.proofs.Common.{rules}
use Rattle.wsn_print.proofs.people_reports.refused_streams.are_exchanged.Goals as goal

pub returns-then-is_refused_as : goal.returns-then-is_refused_as
returns-then-is_refused_as c = search rules
