use Rattle.std.proofs.Common.{rules}
use Rattle.wsn_capture.proofs.lines_before.LinesBefore.entry.Goals as goal

pub returns-then-self-ge-LINES_MAX-clause-entry : goal.returns-then-self-ge-LINES_MAX-clause-entry
returns-then-self-ge-LINES_MAX-clause-entry c = search rules

pub returns-then-text-gt-LINE_MAX-clause-entry : goal.returns-then-text-gt-LINE_MAX-clause-entry
returns-then-text-gt-LINE_MAX-clause-entry c = search rules

pub entry_of-requires : goal.entry_of-requires
entry_of-requires c = search rules

pub returns-in_err-entry : goal.returns-in_err-entry
returns-in_err-entry c = record { entry = search rules; few = search rules }

pub returns-in_err-check_running : goal.returns-in_err-check_running
returns-in_err-check_running c = record { entry = search rules; few = search rules }

pub returns : goal.returns
returns c = record { entry = search rules; few = search rules }
