use Rattle.wsn_color.proofs.PaintedTexts.{painted_lines}
use Rattle.wsn_color.proofs.laws.law_lines_are_painted_apart.Goals as goal

pub returns : goal.returns
returns c = λ layout line text. painted_lines layout line text
