use Rattle.wsn_shown_text.proofs.HeldViews.{bytes_view}
use Rattle.wsn_shown_text.proofs.views.first_bytes.Goals as goal

pub returns : goal.returns
returns c = λ all holds.
    bytes_view c.args.most c.args.bytes.now.bytes all c.args.bytes.now.held.now c.front_of.result.now holds.0 holds.1 c.front_of.ensures
