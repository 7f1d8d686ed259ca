use Rattle.wsn_laws.proofs.VisibleLines.{item_line_visible, character_line_visible, end_line_visible, comment_line_visible}
use Rattle.wsn_laws.proofs.VisiblePeople.{people_line_visible, people_end_visible}
use Rattle.wsn_laws.proofs.quoted_laws.law_lines_are_visible.Goals as goal

pub returns-clause-item : goal.returns-clause-item
returns-clause-item c = item_line_visible

pub returns-clause-character : goal.returns-clause-character
returns-clause-character c = character_line_visible

pub returns-clause-end_mark : goal.returns-clause-end_mark
returns-clause-end_mark c = end_line_visible

pub returns-clause-comment : goal.returns-clause-comment
returns-clause-comment c = comment_line_visible

pub returns-clause-people : goal.returns-clause-people
returns-clause-people c = people_line_visible

pub returns-clause-people_end : goal.returns-clause-people_end
returns-clause-people_end c = people_end_visible
