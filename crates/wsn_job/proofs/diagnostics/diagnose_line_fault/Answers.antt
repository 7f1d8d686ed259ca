use Rattle.std.proofs.Common.{rules}
use Rattle.wsn_job.proofs.diagnostics.diagnose_line_fault.Goals as goal

pub line_of_line_fault-requires : goal.line_of_line_fault-requires
line_of_line_fault-requires g c = search rules

pub bytes-requires : goal.bytes-requires
bytes-requires g c = search rules

pub returns : goal.returns
returns g c = search rules
