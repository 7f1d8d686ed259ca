use Rattle.std.proofs.Common.{rules}
use Rattle.wsn_color.proofs.choice.ColorChoice.paints.Goals as goal

pub returns-then-not-terminal : goal.returns-then-not-terminal
returns-then-not-terminal c = search rules

pub returns-in-Never : goal.returns-in-Never
returns-in-Never c = search rules
