use Rattle.std.proofs.Common.{rules}
use Rattle.wsn_color.proofs.painter.Painter.new.Goals as goal

pub returns-clause-text : goal.returns-clause-text
returns-clause-text g c = search rules
