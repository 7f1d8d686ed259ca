use Rattle.std.proofs.Common.{rules}
use Rattle.wsn_job.proofs.shows.show_capture.Goals as goal

pub show-requires-2-clause-server : goal.show-requires-2-clause-server
show-requires-2-clause-server g c = search rules
