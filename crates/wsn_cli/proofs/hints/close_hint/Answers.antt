use Rattle.std.proofs.Common.{rules}
use Rattle.wsn_cli.proofs.hints.close_hint.Goals as goal

pub returns-in-Some-clause-given : goal.returns-in-Some-clause-given
returns-in-Some-clause-given c = search rules

pub returns-in-None-clause-given : goal.returns-in-None-clause-given
returns-in-None-clause-given c = search rules
