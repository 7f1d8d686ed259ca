use Rattle.std.proofs.Common.{◌≡◌, None, sym, ap, ◌∙◌, subst, arith, rules}
use Rattle.wsn_scan.specs.declared.frame_reader.FrameReader.{FrameReader}
use Rattle.wsn_events.specs.SourceStates.{IsAtWork, answered, events_ahead}
use Rattle.wsn_events.proofs.GivenSoFar.{begun_sound}
use Rattle.wsn_events.proofs.LentNext.{lends_next}
use Rattle.wsn_events.proofs.SourceCalls.{state_of, not_is_some, has_inside, reading_of}
use Rattle.wsn_events.proofs.TakenEvents.{read_on}
use Rattle.wsn_events.proofs.source.Source.take_message.Goals as goal

pub returns-then-is_some : goal.returns-then-is_some
returns-then-is_some g c = search rules

pub same-self : goal.same-self
same-self g c = search rules

pub next_message-requires : goal.next_message-requires
next_message-requires g c = reading_of (state_of c.self.inside) (c.self.invariant (not_is_some c.self.inside.answer (sym c.is_some.ensures ∙ c.if-is_some.false)))

pub invariant_of-self : goal.invariant_of-self
invariant_of-self g c none =
    subst (λ (r : FrameReader). IsAtWork (read_on (state_of c.self.inside) r)) (sym c.in_err-kind.ensures.none) (c.self.invariant none)

pub returns-in_err-kind : goal.returns-in_err-kind
returns-in_err-kind g c =
    let is : c.from_residual.result ≡ None = search rules in
    rw is (record { taken = tt; going = tt; none = ap (λ (r : FrameReader). read_on (state_of c.self.inside) r) c.in_err-kind.ensures.none ∙ c.self.view_is; falls = tt })

pub invariant_of-self-2 : goal.invariant_of-self-2
invariant_of-self-2 g c none =
    let b = c.self.invariant none in
    let e = c.in_ok-kind.ensures in
    begun_sound b.role b.limits _ b.came _
    (lends_next b.role b.limits (state_of c.self.inside) b.came b.given b.has c.next_message.new.self c.in_ok-kind.kind c.in_ok-kind.offset (e.taken b.role b.limits b.came b.has.frames b.has.position b.has.has_taken) c.pass_over.new.self c.pass_over.ensures).has

pub returns : goal.returns
returns g c =
    let e = c.in_ok-kind.ensures in
    record {
      taken = λ role limits came given has.
          let inside = has_inside c.self.inside c.args.self.now c.self.view_is role limits came given has in
          lends_next role limits (state_of c.self.inside) came given inside c.next_message.new.self c.in_ok-kind.kind c.in_ok-kind.offset (e.taken role limits came inside.frames inside.position inside.has_taken) c.pass_over.new.self c.pass_over.ensures;
      going = ap answered (sym c.self.view_is) ∙ not_is_some c.self.inside.answer (sym c.is_some.ensures ∙ c.if-is_some.false);
      none = tt;
      falls = omega (arith, e.falls, ap events_ahead c.self.view_is);
    }
