use Rattle.std.proofs.Common.{rules}
use Rattle.wsn_cli.proofs.hints.report_hint.Goals as goal

pub returns-in-None : goal.returns-in-None
returns-in-None g c = search rules
