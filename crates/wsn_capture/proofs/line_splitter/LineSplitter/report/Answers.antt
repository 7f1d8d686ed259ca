use Rattle.std.proofs.Common.{rules}
use Rattle.wsn_capture.proofs.line_splitter.LineSplitter.report.Goals as goal

pub returns-clause-tails : goal.returns-clause-tails
returns-clause-tails c = search rules
