use Rattle.std.proofs.Common.{rules}
use Rattle.wsn_scan.proofs.scan.Scan.is_between.Goals as goal

pub returns-in-Between : goal.returns-in-Between
returns-in-Between c = search rules
