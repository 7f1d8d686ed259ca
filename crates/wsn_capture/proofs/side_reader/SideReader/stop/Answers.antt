use Rattle.std.proofs.Common.{rules}
use Rattle.wsn_capture.proofs.side_reader.SideReader.stop.Goals as goal

pub returns-in-Some : goal.returns-in-Some
returns-in-Some g c = record { value = search rules; line = search rules }

pub returns-in-None : goal.returns-in-None
returns-in-None g c = record { value = search rules; line = search rules }

pub returns-in-None-2 : goal.returns-in-None-2
returns-in-None-2 g c = record { value = search rules; line = search rules }
