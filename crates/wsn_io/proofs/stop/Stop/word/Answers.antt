use Rattle.std.proofs.Common.{rules}
use Rattle.wsn_io.proofs.stop.Stop.word.Goals as goal

pub returns-in-Read-clause-word : goal.returns-in-Read-clause-word
returns-in-Read-clause-word c = search rules

pub returns-in-Read-clause-short : goal.returns-in-Read-clause-short
returns-in-Read-clause-short c = search rules

pub returns-in-InputLimit-clause-word : goal.returns-in-InputLimit-clause-word
returns-in-InputLimit-clause-word c = search rules

pub returns-in-InputLimit-clause-short : goal.returns-in-InputLimit-clause-short
returns-in-InputLimit-clause-short c = search rules

pub returns-in-Memory-clause-word : goal.returns-in-Memory-clause-word
returns-in-Memory-clause-word c = search rules

pub returns-in-Memory-clause-short : goal.returns-in-Memory-clause-short
returns-in-Memory-clause-short c = search rules

pub returns-in-Write-clause-word : goal.returns-in-Write-clause-word
returns-in-Write-clause-word c = search rules

pub returns-in-Write-clause-short : goal.returns-in-Write-clause-short
returns-in-Write-clause-short c = search rules
