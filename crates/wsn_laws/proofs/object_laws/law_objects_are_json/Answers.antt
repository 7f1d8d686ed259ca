use Rattle.wsn_laws.proofs.Comments.{comment_line}
use Rattle.wsn_laws.proofs.Differences.{difference_line}
use Rattle.wsn_laws.proofs.EndedBy.{ended_by_line}
use Rattle.wsn_laws.proofs.EndMarks.{end_line}
use Rattle.wsn_laws.proofs.ShownNames.{item_line}
use Rattle.wsn_laws.proofs.ObjectLines.{verdict_line, frame_line, report_line, comparison_line}
use Rattle.wsn_laws.proofs.object_laws.law_objects_are_json.Goals as goal

pub returns-clause-verdict : goal.returns-clause-verdict
returns-clause-verdict c = verdict_line

pub returns-clause-frame : goal.returns-clause-frame
returns-clause-frame c = frame_line

pub returns-clause-report : goal.returns-clause-report
returns-clause-report c = report_line

pub returns-clause-comparison : goal.returns-clause-comparison
returns-clause-comparison c = comparison_line

pub returns-clause-difference : goal.returns-clause-difference
returns-clause-difference c = difference_line

pub returns-clause-item : goal.returns-clause-item
returns-clause-item c = item_line

pub returns-clause-end_mark : goal.returns-clause-end_mark
returns-clause-end_mark c = end_line

pub returns-clause-comment : goal.returns-clause-comment
returns-clause-comment c = comment_line

pub returns-clause-ended_by : goal.returns-clause-ended_by
returns-clause-ended_by c = ended_by_line
