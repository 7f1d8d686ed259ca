use Rattle.std.proofs.Common.{rules}
use Rattle.wsn_scan.proofs.scan.events.EventFrame.info.Goals as goal

pub returns : goal.returns
returns c = search rules
