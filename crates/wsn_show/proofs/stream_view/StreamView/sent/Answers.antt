use Rattle.std.proofs.Common.{rules}
use Rattle.wsn_show.proofs.stream_view.StreamView.sent.Goals as goal

pub returns : goal.returns
returns c = search rules
