use Rattle.std.proofs.Common.{rules}
use Rattle.wsn_capture.proofs.line_fault.LineFault.word.Goals as goal

pub returns-in-BadHex : goal.returns-in-BadHex
returns-in-BadHex c = record { word = search rules; short = search rules }

pub returns-in-TooManyLines : goal.returns-in-TooManyLines
returns-in-TooManyLines c = record { word = search rules; short = search rules }

pub returns-in-TooLong : goal.returns-in-TooLong
returns-in-TooLong c = record { word = search rules; short = search rules }

pub returns-in-BadForm : goal.returns-in-BadForm
returns-in-BadForm c = record { word = search rules; short = search rules }

pub returns-in-AfterEnd : goal.returns-in-AfterEnd
returns-in-AfterEnd c = record { word = search rules; short = search rules }

pub returns-in-InputLimit : goal.returns-in-InputLimit
returns-in-InputLimit c = record { word = search rules; short = search rules }
