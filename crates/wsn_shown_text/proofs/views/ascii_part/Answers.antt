use Rattle.wsn_shown_text.specs.Views.Shown.{Ascii}
use Rattle.wsn_shown_text.proofs.HeldViews.{characters_view}
use Rattle.wsn_shown_text.proofs.DifferingParts.{characters_are}
use Rattle.wsn_shown_text.proofs.views.ascii_part.Goals as goal

pub returns : goal.returns
returns c = λ all holds.
    let shown = c.first_characters-shown.result.now in
    let is = characters_are c.args.most all c.args.bytes.now.held.now c.front_of.result.now shown holds.1 c.front_of.ensures c.first_characters-shown.ensures in
    characters_view Ascii c.args.most c.args.bytes.now.bytes all shown holds.0 is
