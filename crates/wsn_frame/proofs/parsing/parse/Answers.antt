use Rattle.std.proofs.Common.{rules}
use Rattle.wsn_frame.proofs.parsing.parse.Goals as goal

pub returns-in-Some-clause-within : goal.returns-in-Some-clause-within
returns-in-Some-clause-within c = search rules
