use Rattle.std.proofs.Common.{arith}
use Rattle.std.proofs.lemmas.Grind.{common_steps}
use Rattle.wsn_print.proofs.people_reports.refused_streams.push_next_at.Goals as goal

pub returns : goal.returns
returns c = grind (arith, common_steps)
