use Rattle.std.proofs.Common.{rules}
use Rattle.wsn_color.proofs.line.Line.pass.Goals as goal

pub returns-then-ends_word-clause-line : goal.returns-then-ends_word-clause-line
returns-then-ends_word-clause-line c = search rules
