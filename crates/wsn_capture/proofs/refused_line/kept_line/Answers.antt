use Rattle.std.proofs.Common.{rules}
use Rattle.wsn_capture.proofs.refused_line.kept_line.Goals as goal

pub returns-in-Ok-Bytes : goal.returns-in-Ok-Bytes
returns-in-Ok-Bytes c = search rules
