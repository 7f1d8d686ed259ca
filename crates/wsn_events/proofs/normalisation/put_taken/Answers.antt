use Rattle.std.proofs.Common.{◌≡◌, ℕ, true, false, Ok, List, take, refl, sym, ◌∙◌, subst, rules}
use Rattle.std.specs.Io.KnownBytes.{Appends}
use Rattle.wsn_events.proofs.TakenEvents.{puts_none}
use Rattle.wsn_events.specs.LentMessages.{PutsTaken}
use Rattle.wsn_events.specs.SourceStates.{SourceState}
use Rattle.wsn_events.proofs.normalisation.put_taken.Goals as goal

pub take_events-requires : goal.take_events-requires
take_events-requires g c = search rules

pub returns-then-not-take_events-clause-put : goal.returns-then-not-take_events-clause-put
returns-then-not-take_events-clause-put g c role limits came given has =
    let not_taken : c.take_events.result ≡ false = search rules in
    subst (λ (source : SourceState g.row.A.Denot). PutsTaken role limits source came given c.args.output.now c.args.output.now (Ok tt)) (sym (c.take_events.ensures.none not_taken))
    (puts_none role limits came given c.args.output.now c.args.source.now c.requires.writable has)

pub returns-then-put-clause-put : goal.returns-then-put-clause-put
returns-then-put-clause-put g c role limits came given has =
    let taken : c.take_events.result ≡ true = search rules in
    let took = c.take_events.ensures.taken taken role limits came given has in
    record {
      events = took.events;
      has = took.has;
      written = (
        c.put.ensures.same c.if-put.true ∙ c.requires.writable,
        subst (λ (bs : List ℕ). Appends c.args.output.now.written c.put.new.self.written bs) (c.taken.ensures ∙ took.normal_is) (c.put.ensures.all c.if-put.true),
      );
    }

pub returns-else-put-clause-put : goal.returns-else-put-clause-put
returns-else-put-clause-put g c role limits came given has =
    let taken : c.take_events.result ≡ true = search rules in
    let took = c.take_events.ensures.taken taken role limits came given has in
    let part = c.put.ensures.prefix c.if-put.false in
    record {
      events = took.events;
      has = took.has;
      written = (
        refl,
        (
          c.put.ensures.failed c.if-put.false,
          (part.0, subst (λ (bs : List ℕ). Appends c.args.output.now.written c.put.new.self.written (take part.0 bs)) (c.taken.ensures ∙ took.normal_is) part.2),
        ),
      );
    }

pub returns-then-not-take_events-clause-left : goal.returns-then-not-take_events-clause-left
returns-then-not-take_events-clause-left g c = search rules

pub returns-then-put-clause-left : goal.returns-then-put-clause-left
returns-then-put-clause-left g c = search rules

pub returns-else-put-clause-left : goal.returns-else-put-clause-left
returns-else-put-clause-left g c = search rules
