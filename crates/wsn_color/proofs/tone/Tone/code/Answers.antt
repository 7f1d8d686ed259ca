use Rattle.std.proofs.Common.{rules}
use Rattle.wsn_color.proofs.tone.Tone.code.Goals as goal

pub returns-in-Client-clause-code : goal.returns-in-Client-clause-code
returns-in-Client-clause-code c = search rules

pub returns-in-Minor-clause-code : goal.returns-in-Minor-clause-code
returns-in-Minor-clause-code c = search rules
