use Rattle.std.proofs.Common.{rules}
use Rattle.wsn_color.proofs.line.Line.next_place.Goals as goal

pub returns-then-self-lt-TONED_IN_COLUMNS : goal.returns-then-self-lt-TONED_IN_COLUMNS
returns-then-self-lt-TONED_IN_COLUMNS c = search rules
