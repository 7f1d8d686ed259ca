use Rattle.std.proofs.Common.{rules, false, Option, ap}
use Rattle.wsn_capture.specs.declared.side_bytes.FaultyLine.{FaultyLine}
use Rattle.wsn_capture.specs.SideStates.{stop_of}
use Rattle.wsn_capture.proofs.side_reader.SideReader.new.Goals as goal

pub returns : goal.returns
returns g c = record { stop = ap (λ (f : Option FaultyLine). stop_of f false) c.new.ensures.unfaulted; remaining = search rules }
