use Rattle.std.proofs.Common.{rules}
use Rattle.wsn_color.proofs.tone.plain_code.Goals as goal

pub returns-clause-code : goal.returns-clause-code
returns-clause-code c = search rules
