use Rattle.std.proofs.Common.{rules}
use Rattle.wsn_job.proofs.shows.show_one_stream.Goals as goal

pub returns-then-size-le-SHORT-clause-done : goal.returns-then-size-le-SHORT-clause-done
returns-then-size-le-SHORT-clause-done g c = search rules
