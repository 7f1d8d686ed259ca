use Rattle.std.proofs.Common.{rules}
use Rattle.wsn_io.proofs.tied.TiedReaderRead.read.Goals as goal

pub returns-clause-bytes : goal.returns-clause-bytes
returns-clause-bytes g c = search rules

pub returns-clause-bound : goal.returns-clause-bound
returns-clause-bound c = search rules
