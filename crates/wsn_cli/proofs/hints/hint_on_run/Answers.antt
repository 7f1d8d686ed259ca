use Rattle.std.proofs.Common.{rules}
use Rattle.wsn_cli.proofs.hints.hint_on_run.Goals as goal

pub returns-in-None-Some-clause-json : goal.returns-in-None-Some-clause-json
returns-in-None-Some-clause-json g c = search rules
