use Rattle.std.proofs.Common.{rules}
use Rattle.wsn_print.proofs.people_reports.refused_streams.may_be_extended.Goals as goal

pub returns : goal.returns
returns c = search rules
