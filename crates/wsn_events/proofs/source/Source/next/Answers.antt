use Rattle.std.proofs.Common.{◌≡◌, ℕ, List, ◌++◌, length, Option, None, Some, Result, Ok, Err, refl, sym, ap, ◌∙◌, subst, rules, arith}
use Rattle.std.proofs.lemmas.Result.{err_from_is_err_and}
use Rattle.wsn_io.specs.declared.stop.Stop.{Stop}
use Rattle.wsn_io.specs.declared.stop.Stop.TheVariants as stop
use Rattle.wsn_rules.specs.declared.verdict.Verdict.{Verdict}
use Rattle.wsn_rules.specs.Meaning.{Message}
use Rattle.wsn_events.specs.declared.event.Event.TheVariants as events
use Rattle.wsn_events.specs.SourceStates.{ReadsNextEvent, answered, events_ahead}
use Rattle.wsn_events.specs.Turns.{GivesEvent}
use Rattle.wsn_events.proofs.SourceCalls.{at_work, begun_next, own_next, stops_next, copied_next, not_copied_next}
use Rattle.wsn_events.proofs.source.Source.next.Goals as goal

pub next_turn-requires : goal.next_turn-requires
next_turn-requires g c = search rules

pub same-self : goal.same-self
same-self g c = search rules

pub same-self-in-Some : goal.same-self-in-Some
same-self-in-Some g c = search rules

pub same-self-2 : goal.same-self-2
same-self-2 g c = search rules

pub returns-in_err-answer : goal.returns-in_err-answer
returns-in_err-answer g c = record { next = search rules; falls = search rules; again = search rules; sound = search rules }

pub returns-in-Some : goal.returns-in-Some
returns-in-Some g c = record { next = search rules; falls = search rules; again = search rules; sound = search rules }

pub returns-in_err-next : goal.returns-in_err-next
returns-in_err-next g c = record {
  next = λ role limits came given has.
      let out = err_from_is_err_and c.from_residual-in_err-next.result c.from_residual-in_err-next.ensures.1 in
      subst (λ (r : _). ReadsNextEvent role limits c.args.input.now c.next_turn.new.input c.next_turn.new.self came given r) (sym (out.1 ∙ ap Err out.2))
      (stops_next role limits c.args.input.now c.next_turn.new.input c.next_turn.new.self came given c.next_turn.result (c.next_turn.ensures.next role limits came given has) c.in_err-next.field-0.0 c.in_err-next.was);
  falls = search rules;
  again = λ answer was. absurd (c.in_default.not-Some answer (ap answered c.self.view_is ∙ was));
  sound = λ none. absurd (subst (λ (r : _). GivesEvent r) c.in_err-next.was (c.next_turn.ensures.sound none));
}

pub returns-in-Own : goal.returns-in-Own
returns-in-Own g c = record {
  next = λ role limits came given has. own_next role limits c.args.input.now c.next_turn.new.input c.next_turn.new.self came given c.next_turn.result (c.next_turn.ensures.next role limits came given has) c.in-Own.next (c.in_ok-next.was ∙ ap Ok c.in-Own.is);
  falls = λ event. c.next_turn.ensures.falls (subst (λ (r : _). GivesEvent r) (sym (c.in_ok-next.was ∙ ap Ok c.in-Own.is)) event);
  again = λ answer was. absurd (c.in_default.not-Some answer (ap answered c.self.view_is ∙ was));
  sound = λ none. subst (λ (r : _). GivesEvent r) (c.in_ok-next.was ∙ ap Ok c.in-Own.is) (c.next_turn.ensures.sound none);
}

pub invariant_of-self-in_default-copy : goal.invariant_of-self-in_default-copy
invariant_of-self-in_default-copy g c none = let no : ◌≡◌ {A = Option (Result Verdict Stop)} (Some (Err stop.Memory)) None = none in absurd cc

pub returns-in_default-copy : goal.returns-in_default-copy
returns-in_default-copy g c = record {
  next = λ role limits came given has.
      not_copied_next role limits c.args.input.now c.next_turn.new.input c.self-2.inside c.next_turn.new.self c.self-2.view_is came given c.next_turn.result (c.next_turn.ensures.next role limits came given has) c.in-Lent.kind (c.in_ok-next.was ∙ ap Ok c.in-Lent.is) (λ none. c.in_default-copy.ensures.none (c.payload.ensures ∙ none)) (record { reader = c.self-2.inside.reader; reassembly = c.release.new.self; answer = Some (Err stop.Memory) }) refl (ap (λ (bs : List ℕ). length bs) c.release.ensures);
  falls = search rules;
  again = λ answer was. absurd (c.in_default.not-Some answer (ap answered c.self.view_is ∙ was));
  sound = search rules;
}

pub returns-clause-next : goal.returns-clause-next
returns-clause-next g c role limits came given has =
    copied_next role limits c.args.input.now c.next_turn.new.input c.self-2.inside c.next_turn.new.self c.self-2.view_is came given c.next_turn.result (c.next_turn.ensures.next role limits came given has) c.in-Lent.kind (c.in_ok-next.was ∙ ap Ok c.in-Lent.is) c.copy.new.self c.copy.ensures.same c.in-Some-copy.ensures.held (events.Message c.in-Lent.kind c.in-Some-copy.text)
    (ap (λ (bs : List ℕ). Message c.in-Lent.kind bs) (c.in-Some-copy.ensures.copied ∙ ap (λ (bs : List ℕ). c.self-2.inside.reassembly.message.items ++ bs) c.payload.ensures))

pub returns-clause-falls : goal.returns-clause-falls
returns-clause-falls g c event =
    let falls = c.next_turn.ensures.falls (subst (λ (r : _). GivesEvent r) (sym (c.in_ok-next.was ∙ ap Ok c.in-Lent.is)) tt) in
    omega (arith, falls, ap events_ahead c.self-2.view_is)

pub returns-clause-again : goal.returns-clause-again
returns-clause-again g c answer was = absurd (c.in_default.not-Some answer (ap answered c.self.view_is ∙ was))

pub invariant_of-self : goal.invariant_of-self
invariant_of-self g c none =
    let b = at_work c.self.inside c.args.self.now c.self.view_is c.in_default.not-Some c.self.invariant in
    begun_next b.role b.limits c.args.input.now c.next_turn.new.input _ b.came b.given _
    (copied_next b.role b.limits c.args.input.now c.next_turn.new.input c.self-2.inside c.next_turn.new.self c.self-2.view_is b.came b.given c.next_turn.result (c.next_turn.ensures.next b.role b.limits b.came b.given b.has) c.in-Lent.kind (c.in_ok-next.was ∙ ap Ok c.in-Lent.is) c.copy.new.self c.copy.ensures.same c.in-Some-copy.ensures.held (events.Message c.in-Lent.kind c.in-Some-copy.text)
    (ap (λ (bs : List ℕ). Message c.in-Lent.kind bs) (c.in-Some-copy.ensures.copied ∙ ap (λ (bs : List ℕ). c.self-2.inside.reassembly.message.items ++ bs) c.payload.ensures))) tt
