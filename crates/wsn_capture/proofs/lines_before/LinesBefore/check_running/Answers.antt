use Rattle.std.proofs.Common.{rules}
use Rattle.wsn_capture.proofs.lines_before.LinesBefore.check_running.Goals as goal

pub returns-then-ended-clause-over : goal.returns-then-ended-clause-over
returns-then-ended-clause-over c = search rules

pub returns-clause-going : goal.returns-clause-going
returns-clause-going c = search rules
