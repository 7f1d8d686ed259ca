use Rattle.std.proofs.Common.{rules}
use Rattle.wsn_shown_text.proofs.ascii_text.ascii_character.Goals as goal

pub line_of-requires : goal.line_of-requires
line_of-requires c = search rules

pub line_of-requires-in-92 : goal.line_of-requires-in-92
line_of-requires-in-92 c = search rules

pub line_of_ascii-requires : goal.line_of_ascii-requires
line_of_ascii-requires c = search rules

pub ascii_escape-requires : goal.ascii_escape-requires
ascii_escape-requires c = search rules

pub returns-in-34 : goal.returns-in-34
returns-in-34 c = search rules

pub returns-in-92 : goal.returns-in-92
returns-in-92 c = search rules

pub returns-in-32-to-126 : goal.returns-in-32-to-126
returns-in-32-to-126 c = search rules

pub returns-in_default : goal.returns-in_default
returns-in_default c = search rules
