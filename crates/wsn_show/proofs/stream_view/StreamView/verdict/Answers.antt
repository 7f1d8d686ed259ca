use Rattle.std.proofs.Common.{sym, subst}
use Rattle.wsn_show.specs.ShownSoFar.{Viewed, HasViewed}
use Rattle.wsn_show.proofs.StreamsShown.{judged}
use Rattle.wsn_show.proofs.stream_view.StreamView.verdict.Goals as goal

pub returns : goal.returns
returns c role limits style came has =
    let inside = c.self.inside in
    let here = subst (λ (v : Viewed). HasViewed role limits style v came) (sym c.self.view_is) has in
    judged style role limits inside.scan inside.parts came here.shown c.finish.result (λ bytes rest fs at scanned. c.finish.ensures.verdict role limits bytes rest fs at scanned) c.finish.ensures.reported here.has
