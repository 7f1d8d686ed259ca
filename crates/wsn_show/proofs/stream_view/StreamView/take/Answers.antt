use Rattle.std.proofs.Common.{◌≤◌, ◌++◌, length, sym, subst, refl}
use Rattle.wsn_show.specs.ShownSoFar.{Viewed, HasViewed}
use Rattle.wsn_show.proofs.ViewedStreams.{own_shown, own_showing, small, viewed_more, shows_more}
use Rattle.wsn_show.proofs.stream_view.StreamView.take.Goals as goal

pub feed-requires-clause-begun : goal.feed-requires-clause-begun
feed-requires-clause-begun g c none =
    let inside = c.self.inside in
    let viewed : Viewed = record { role = inside.role; style = inside.style; input = inside.input; room = inside.room; scan = inside.scan; parts = inside.parts } in
    let own = c.self.invariant in
    own_showing own.role own.limits own.style viewed own.came own.has none

pub invariant_of-self : goal.invariant_of-self
invariant_of-self g c =
    let inside = c.self.inside in
    let viewed : Viewed = record { role = inside.role; style = inside.style; input = inside.input; room = inside.room; scan = inside.scan; parts = inside.parts } in
    let own = c.self.invariant in
    let fits = subst (λ (v : Viewed). length c.args.bytes.now ≤ v.room) (sym c.self.view_is) c.requires.fits in
    let s =
    c.feed.ensures own.role own.limits own.came own.has.shown (small own.role own.limits own.style viewed own.came own.has c.args.bytes.now fits)
    (own_shown own.role own.limits own.style viewed own.came own.has) in
    record {
      role = own.role;
      limits = own.limits;
      style = own.style;
      came = own.came ++ c.args.bytes.now;
      has = viewed_more own.role own.limits own.style viewed own.came own.has c.args.bytes.now fits c.feed.new.scan c.feed.new.parts _ refl c.args.output.now c.feed.new.output s;
    }

pub returns-clause-viewed : goal.returns-clause-viewed
returns-clause-viewed g c role limits style came has =
    let inside = c.self.inside in
    let viewed : Viewed = record { role = inside.role; style = inside.style; input = inside.input; room = inside.room; scan = inside.scan; parts = inside.parts } in
    let here = subst (λ (v : Viewed). HasViewed role limits style v came) (sym c.self.view_is) has in
    let fits = subst (λ (v : Viewed). length c.args.bytes.now ≤ v.room) (sym c.self.view_is) c.requires.fits in
    let s = c.feed.ensures role limits came here.shown (small role limits style viewed came here c.args.bytes.now fits) (own_shown role limits style viewed came here) in
    viewed_more role limits style viewed came here c.args.bytes.now fits c.feed.new.scan c.feed.new.parts _ refl c.args.output.now c.feed.new.output s

pub returns-clause-printed : goal.returns-clause-printed
returns-clause-printed g c role limits style came has =
    let inside = c.self.inside in
    let viewed : Viewed = record { role = inside.role; style = inside.style; input = inside.input; room = inside.room; scan = inside.scan; parts = inside.parts } in
    let here = subst (λ (v : Viewed). HasViewed role limits style v came) (sym c.self.view_is) has in
    let fits = subst (λ (v : Viewed). length c.args.bytes.now ≤ v.room) (sym c.self.view_is) c.requires.fits in
    let s = c.feed.ensures role limits came here.shown (small role limits style viewed came here c.args.bytes.now fits) (own_shown role limits style viewed came here) in
    shows_more role limits style viewed came here c.args.bytes.now fits c.feed.new.scan c.feed.new.parts _ refl c.args.output.now c.feed.new.output s refl c.requires.writable
