use Rattle.std.proofs.Common.{rules}
use Rattle.wsn_capture.proofs.capture_lines.CaptureLines.take_room.Goals as goal

pub returns-in-Bytes-Client-default : goal.returns-in-Bytes-Client-default
returns-in-Bytes-Client-default c = record { taken = search rules; fits = search rules; over = search rules; unchanged = search rules }

pub returns-in-Bytes-Server-default : goal.returns-in-Bytes-Server-default
returns-in-Bytes-Server-default c = record { taken = search rules; fits = search rules; over = search rules; unchanged = search rules }

pub returns-in-Nothing : goal.returns-in-Nothing
returns-in-Nothing c = search rules
