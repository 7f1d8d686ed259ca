use Rattle.std.proofs.Common.{rules}
use Rattle.wsn_scan.proofs.frame_reader.first_byte_of.Goals as goal

pub returns-in-Binary : goal.returns-in-Binary
returns-in-Binary c = search rules
