use Rattle.std.proofs.Common.{rules}
use Rattle.wsn_scan.proofs.scan.events.is_plain.Goals as goal

pub returns-in-Shortest : goal.returns-in-Shortest
returns-in-Shortest c = search rules

pub returns-in_default : goal.returns-in_default
returns-in_default c = search rules

pub returns-else-ne : goal.returns-else-ne
returns-else-ne c = search rules
