use Rattle.std.proofs.Common.{rules}
use Rattle.wsn_redact.proofs.LineParts.{only_reset}
use Rattle.wsn_redact.proofs.redacted_line.stays.Goals as goal

pub returns-in-None : goal.returns-in-None
returns-in-None c = only_reset c.args.text.now c.is_reset.result c.in-None.ensures c.is_reset.ensures

pub returns-in-Some : goal.returns-in-Some
returns-in-Some c = search rules
