use Rattle.std.proofs.Common.{rules}
use Rattle.wsn_print.proofs.kept_bytes.KeptBytes.has_room.Goals as goal

pub returns-clause-room : goal.returns-clause-room
returns-clause-room g c = search rules

pub returns-clause-full : goal.returns-clause-full
returns-clause-full g c = search rules
