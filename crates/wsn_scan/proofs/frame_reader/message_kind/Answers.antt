use Rattle.std.proofs.Common.{rules}
use Rattle.wsn_scan.proofs.frame_reader.message_kind.Goals as goal

pub returns-in-Some-eq130 : goal.returns-in-Some-eq130
returns-in-Some-eq130 c = search rules
