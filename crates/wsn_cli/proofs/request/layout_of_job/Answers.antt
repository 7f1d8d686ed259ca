use Rattle.std.proofs.Common.{rules}
use Rattle.wsn_cli.proofs.request.layout_of_job.Goals as goal

pub returns-in-ShowStream : goal.returns-in-ShowStream
returns-in-ShowStream c = search rules
