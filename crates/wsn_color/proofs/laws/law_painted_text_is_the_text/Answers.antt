use Rattle.wsn_color.proofs.PaintedTexts.{painted_plain, painted_same}
use Rattle.wsn_color.proofs.laws.law_painted_text_is_the_text.Goals as goal

pub returns-clause-same : goal.returns-clause-same
returns-clause-same c = λ layout text none. painted_same layout text none

pub returns-clause-plain : goal.returns-clause-plain
returns-clause-plain c = λ layout text none. painted_plain layout text none
