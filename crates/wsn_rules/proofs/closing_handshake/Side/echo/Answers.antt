use Rattle.std.proofs.Common.{rules}
use Rattle.wsn_rules.proofs.closing_handshake.Side.echo.Goals as goal

pub returns-in-Closed-Closed : goal.returns-in-Closed-Closed
returns-in-Closed-Closed c = search rules

pub returns-in_default : goal.returns-in_default
returns-in_default c = search rules

pub returns-in_default-2 : goal.returns-in_default-2
returns-in_default-2 c = search rules
