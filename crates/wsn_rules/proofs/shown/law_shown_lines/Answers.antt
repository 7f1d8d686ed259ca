use Rattle.wsn_rules.proofs.ShownLines.{lines_show_stream}
use Rattle.wsn_rules.proofs.shown.law_shown_lines.Goals as goal

pub returns : goal.returns
returns c detail role limits lines entries shown are = lines_show_stream detail limits role lines entries shown are
