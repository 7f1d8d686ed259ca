use Rattle.std.proofs.Common.{rules}
use Rattle.wsn_job.proofs.shows.memory_of.Goals as goal

pub returns-in-Ok : goal.returns-in-Ok
returns-in-Ok g c = search rules
