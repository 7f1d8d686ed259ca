use Rattle.std.proofs.Common.{rules}
use Rattle.wsn_color.proofs.layout.Layout.may_begin.Goals as goal

pub returns-in-Answer : goal.returns-in-Answer
returns-in-Answer c = search rules
