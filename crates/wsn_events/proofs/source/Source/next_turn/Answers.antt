use Rattle.std.proofs.Common.{◌≡◌, ℕ, true, false, Option, None, Some, Result, Ok, Err, List, ◌++◌, length, sym, ap, ◌∙◌, subst, rules, arith}
use Rattle.std.proofs.lemmas.Result.{err_from_is_err_and}
use Rattle.wsn_wire.specs.declared.endpoint.Role.{Role}
use Rattle.wsn_io.specs.declared.stop.Stop.{Stop}
use Rattle.wsn_rules.specs.declared.verdict.Verdict.{Verdict}
use Rattle.wsn_rules.specs.Limits.{Limits}
use Rattle.wsn_rules.specs.Meaning.{MeantEvent}
use Rattle.wsn_events.specs.SourceStates.{SourceState, HasGiven, answered, events_ahead, next_of}
use Rattle.wsn_events.specs.Reassembly.{IsInFrame}
use Rattle.wsn_events.specs.Turns.{TakesTurn, own_turn}
use Rattle.wsn_events.proofs.SourceCalls.{HasRead, state_of, going_on, at_work, begins, lends, within, fragment, gives, end_lawful, no_memory, finished, stopped, reading_of, begun_after}
use Rattle.wsn_events.proofs.GivenSoFar.{begun_sound}
use Rattle.wsn_events.proofs.source.Source.next_turn.Given.{Over}
use Rattle.wsn_events.proofs.source.Source.next_turn.Goals as goal
use Rattle.wsn_events.proofs.source.Source.next_turn.Goals.{After-release, in-Ok-None+in_default-whole_message+then-not-take, in-Ok-Some, in-Err}

-- the source has ended with the answer that left the loop
module _ (g : Over) (c : After-release g) where
  abbrev last : SourceState g.row.A.Denot
  last = record { reader = c.match-next.self-inside.reader; reassembly = c.release.new.self; answer = Some c.match-next.ended }

  abbrev EndsWith : Role → Limits → List ℕ → List MeantEvent → Result Verdict Stop → Type 0
  EndsWith role limits came given answer = TakesTurn role limits c.args.input.now c.next.new.input last came given (own_turn (next_of answer))

  ended : (role : Role) (limits : Limits) (came : List ℕ) (given : List MeantEvent) → HasGiven role limits c.args.self.now came given → EndsWith role limits came given c.match-next.ended
  ended role limits came given has =
      let read = c.loop-self.invariant.read role limits came given has in
      let reads = c.next.ensures.next role limits (came ++ read.more) read.has.frames read.has.position read.has.has_taken in
      let held = ap (λ (bs : List ℕ). length bs) c.release.ensures in
      elim c.match-next.branch [
        | in-Ok-None+in_default-whole_message+then-not-take w ↦
            let was : c.next.result ≡ Ok None = w.in-Ok-None.is ∙ ap Ok w.in-Ok-None.field-0-is in
            let refused : w.take.result ≡ false = search rules in
            let failed = w.take.ensures.refused refused in
            subst (EndsWith role limits came given) (sym w.ended-is)
            (no_memory role limits c.args.input.now came given c.loop-self.input c.next.new.input (state_of c.loop-self.self-inside) c.next.new.self c.next.new.part read c.next.result reads was w.begin.new.self w.begin.ensures (failed.0, λ none. failed.1 (w.payload.ensures ∙ none)) last (ap Some w.ended-is) held)
        | in-Ok-Some w ↦
            subst (EndsWith role limits came given) (sym w.ended-is)
            (finished role limits c.args.input.now came given c.loop-self.input c.next.new.input (state_of c.loop-self.self-inside) c.next.new.self c.next.new.part read c.next.result reads w.in-Ok-Some.verdict (w.in-Ok-Some.is ∙ ap Ok w.in-Ok-Some.field-0-is) last (ap Some w.ended-is) held)
        | in-Err w ↦
            subst (EndsWith role limits came given) (sym w.ended-is)
            (stopped role limits c.args.input.now came given c.loop-self.input c.next.new.input (state_of c.loop-self.self-inside) c.next.new.self c.next.new.part read c.next.result reads w.in-Err.stop w.in-Err.is last (ap Some w.ended-is) held)
      ]

pub loop-self-init : goal.loop-self-init
loop-self-init g c = record {
  read = λ role limits came given has.
      subst (λ (s : SourceState _). HasRead role limits c.args.input.now c.args.input.now s came given) (sym c.self.view_is)
      (begins role limits c.args.input.now came given c.args.self.now (c.requires.readable (going_on c.self.inside c.args.self.now c.self.view_is c.in_default.not-Some)) has);
  left = omega (arith, ap events_ahead c.self.view_is);
}

pub next-requires : goal.next-requires
next-requires g c =
    let b = at_work c.self.inside c.args.self.now c.self.view_is c.in_default.not-Some c.self.invariant in
    let read = c.loop-self.invariant.read b.role b.limits b.came b.given b.has in
    record {
      begun = reading_of (state_of c.loop-self.self-inside) (begun_sound b.role b.limits (state_of c.loop-self.self-inside) (b.came ++ read.more) b.given read.has);
      readable = read.unfailed;
    }

pub returns-in-Some-whole_message-clause-next : goal.returns-in-Some-whole_message-clause-next
returns-in-Some-whole_message-clause-next g c role limits came given has =
    let read = c.loop-self.invariant.read role limits came given has in
    let reads = c.next.ensures.next role limits (came ++ read.more) read.has.frames read.has.position read.has.has_taken in
    let was : c.next.result ≡ Ok None = c.in-Ok-None.is ∙ ap Ok c.in-Ok-None.field-0-is in
    lends role limits c.args.input.now came given c.loop-self.input c.next.new.input (state_of c.loop-self.self-inside) c.next.new.self c.next.new.part read c.next.result reads was c.begin.new.self c.begin.ensures c.in-Some-whole_message.kind c.in-Some-whole_message.ensures

pub returns-in-Some-whole_message-clause-falls : goal.returns-in-Some-whole_message-clause-falls
returns-in-Some-whole_message-clause-falls g c is =
    omega (arith, c.next.ensures.falls (c.in-Ok-None.is ∙ ap Ok c.in-Ok-None.field-0-is), c.loop-self.invariant.left)

pub end-requires : goal.end-requires
end-requires g c =
    let b = at_work c.self.inside c.args.self.now c.self.view_is c.in_default.not-Some c.self.invariant in
    let read = c.loop-self.invariant.read b.role b.limits b.came b.given b.has in
    let reads = c.next.ensures.next b.role b.limits (b.came ++ read.more) read.has.frames read.has.position read.has.has_taken in
    let was : c.next.result ≡ Ok None = c.in-Ok-None.is ∙ ap Ok c.in-Ok-None.field-0-is in
    let taken : c.take.result ≡ true = search rules in
    record { lawful = λ final control. end_lawful b.role b.limits c.args.input.now b.came b.given c.loop-self.input c.next.new.input (state_of c.loop-self.self-inside) c.next.new.self c.next.new.part read c.next.result reads was c.begin.new.self c.begin.ensures c.take.new.self (λ before op front within. subst (λ (bs : List ℕ). IsInFrame c.take.new.self before op (front ++ bs)) c.payload.ensures (c.take.ensures.taken before op front taken within)) c.if-part.true control }

pub returns-in-Some-end-clause-next : goal.returns-in-Some-end-clause-next
returns-in-Some-end-clause-next g c role limits came given has =
    let read = c.loop-self.invariant.read role limits came given has in
    let reads = c.next.ensures.next role limits (came ++ read.more) read.has.frames read.has.position read.has.has_taken in
    let was : c.next.result ≡ Ok None = c.in-Ok-None.is ∙ ap Ok c.in-Ok-None.field-0-is in
    let taken : c.take.result ≡ true = search rules in
    gives role limits c.args.input.now came given c.loop-self.input c.next.new.input (state_of c.loop-self.self-inside) c.next.new.self c.next.new.part read c.next.result reads was c.begin.new.self c.begin.ensures c.take.new.self (λ before op front within. subst (λ (bs : List ℕ). IsInFrame c.take.new.self before op (front ++ bs)) c.payload.ensures (c.take.ensures.taken before op front taken within)) c.if-part.true c.end.new.self c.end.result (c.end.ensures role limits) c.in-Some-end.event c.in-Some-end.is

pub returns-in-Some-end-clause-falls : goal.returns-in-Some-end-clause-falls
returns-in-Some-end-clause-falls g c is =
    omega (arith, c.next.ensures.falls (c.in-Ok-None.is ∙ ap Ok c.in-Ok-None.field-0-is), c.loop-self.invariant.left)

pub loop-self-smaller-in_default-end : goal.loop-self-smaller-in_default-end
loop-self-smaller-in_default-end g c = c.next.ensures.falls (c.in-Ok-None.is ∙ ap Ok c.in-Ok-None.field-0-is)

pub loop-self-preserved-in_default-end : goal.loop-self-preserved-in_default-end
loop-self-preserved-in_default-end g c =
    let was : c.next.result ≡ Ok None = c.in-Ok-None.is ∙ ap Ok c.in-Ok-None.field-0-is in
    let taken : c.take.result ≡ true = search rules in
    record {
      read = λ role limits came given has.
          let read = c.loop-self.invariant.read role limits came given has in
          let reads = c.next.ensures.next role limits (came ++ read.more) read.has.frames read.has.position read.has.has_taken in
          fragment role limits c.args.input.now came given c.loop-self.input c.next.new.input (state_of c.loop-self.self-inside) c.next.new.self c.next.new.part read c.next.result reads was c.begin.new.self c.begin.ensures c.take.new.self (λ before op front within. subst (λ (bs : List ℕ). IsInFrame c.take.new.self before op (front ++ bs)) c.payload.ensures (c.take.ensures.taken before op front taken within)) c.if-part.true c.end.new.self c.end.result (c.end.ensures role limits) c.in_default-end.is;
      left = omega (arith, c.next.ensures.falls was, c.loop-self.invariant.left);
    }

pub loop-self-smaller : goal.loop-self-smaller
loop-self-smaller g c = c.next.ensures.falls (c.in-Ok-None.is ∙ ap Ok c.in-Ok-None.field-0-is)

pub loop-self-preserved : goal.loop-self-preserved
loop-self-preserved g c =
    let was : c.next.result ≡ Ok None = c.in-Ok-None.is ∙ ap Ok c.in-Ok-None.field-0-is in
    let taken : c.take.result ≡ true = search rules in
    record {
      read = λ role limits came given has.
          let read = c.loop-self.invariant.read role limits came given has in
          let reads = c.next.ensures.next role limits (came ++ read.more) read.has.frames read.has.position read.has.has_taken in
          within role limits c.args.input.now came given c.loop-self.input c.next.new.input (state_of c.loop-self.self-inside) c.next.new.self c.next.new.part read c.next.result reads was c.begin.new.self c.begin.ensures c.take.new.self (λ before op front within. subst (λ (bs : List ℕ). IsInFrame c.take.new.self before op (front ++ bs)) c.payload.ensures (c.take.ensures.taken before op front taken within)) c.if-part.false;
      left = omega (arith, c.next.ensures.falls was, c.loop-self.invariant.left);
    }

pub same-self : goal.same-self
same-self g c = search rules

pub returns-in_err-answer : goal.returns-in_err-answer
returns-in_err-answer g c = record { next = search rules; falls = search rules; again = search rules; sound = search rules }

pub same-self-in-Some : goal.same-self-in-Some
same-self-in-Some g c = search rules

pub returns-in-Some : goal.returns-in-Some
returns-in-Some g c = record { next = search rules; falls = search rules; again = search rules; sound = search rules }

pub returns-in-Some-whole_message-clause-again : goal.returns-in-Some-whole_message-clause-again
returns-in-Some-whole_message-clause-again g c answer was = absurd (c.in_default.not-Some answer (ap answered c.self.view_is ∙ was))

pub returns-in-Some-end-clause-again : goal.returns-in-Some-end-clause-again
returns-in-Some-end-clause-again g c answer was = absurd (c.in_default.not-Some answer (ap answered c.self.view_is ∙ was))

pub invariant_of-self : goal.invariant_of-self
invariant_of-self g c none =
    let b = at_work c.self.inside c.args.self.now c.self.view_is c.in_default.not-Some c.self.invariant in
    let read = c.loop-self.invariant.read b.role b.limits b.came b.given b.has in
    let reads = c.next.ensures.next b.role b.limits (b.came ++ read.more) read.has.frames read.has.position read.has.has_taken in
    let was : c.next.result ≡ Ok None = c.in-Ok-None.is ∙ ap Ok c.in-Ok-None.field-0-is in
    begun_after b.role b.limits c.args.input.now c.next.new.input _ b.came b.given _ (lends b.role b.limits c.args.input.now b.came b.given c.loop-self.input c.next.new.input (state_of c.loop-self.self-inside) c.next.new.self c.next.new.part read c.next.result reads was c.begin.new.self c.begin.ensures c.in-Some-whole_message.kind c.in-Some-whole_message.ensures) tt

pub invariant_of-self-in-Some-end : goal.invariant_of-self-in-Some-end
invariant_of-self-in-Some-end g c none =
    let b = at_work c.self.inside c.args.self.now c.self.view_is c.in_default.not-Some c.self.invariant in
    let read = c.loop-self.invariant.read b.role b.limits b.came b.given b.has in
    let reads = c.next.ensures.next b.role b.limits (b.came ++ read.more) read.has.frames read.has.position read.has.has_taken in
    let was : c.next.result ≡ Ok None = c.in-Ok-None.is ∙ ap Ok c.in-Ok-None.field-0-is in
    let taken : c.take.result ≡ true = search rules in
    begun_after b.role b.limits c.args.input.now c.next.new.input _ b.came b.given _
    (gives b.role b.limits c.args.input.now b.came b.given c.loop-self.input c.next.new.input (state_of c.loop-self.self-inside) c.next.new.self c.next.new.part read c.next.result reads was c.begin.new.self c.begin.ensures c.take.new.self (λ before op front within. subst (λ (bs : List ℕ). IsInFrame c.take.new.self before op (front ++ bs)) c.payload.ensures (c.take.ensures.taken before op front taken within)) c.if-part.true c.end.new.self c.end.result (c.end.ensures b.role b.limits) c.in-Some-end.event c.in-Some-end.is) tt

pub returns : goal.returns
returns g c = record {
  next = λ role limits came given has.
      let at = (goal.at.returns g c).After-release in
      subst (λ (r : _). TakesTurn role limits c.args.input.now c.next.new.input (last g at) came given r) (ap (λ (r : Result Verdict Stop). own_turn (next_of r)) c.in_ok-ended.was) (ended g at role limits came given has);
  falls = search rules;
  again = λ answer was. absurd (c.in_default.not-Some answer (ap answered c.self.view_is ∙ was));
  sound = search rules;
}

pub returns-in_err-ended : goal.returns-in_err-ended
returns-in_err-ended g c = record {
  next = λ role limits came given has.
      let at = (goal.at.returns-in_err-ended g c).After-release in
      let out = err_from_is_err_and c.from_residual-in_err-ended.result c.from_residual-in_err-ended.ensures.1 in
      subst (λ (r : _). TakesTurn role limits c.args.input.now c.next.new.input (last g at) came given r) (ap (λ (r : Result Verdict Stop). own_turn (next_of r)) c.in_err-ended.was ∙ sym (out.1 ∙ ap Err out.2)) (ended g at role limits came given has);
  falls = search rules;
  again = λ answer was. absurd (c.in_default.not-Some answer (ap answered c.self.view_is ∙ was));
  sound = search rules;
}

pub invariant_of-self-2 : goal.invariant_of-self-2
invariant_of-self-2 g c none = let no : ◌≡◌ {A = Option (Result Verdict Stop)} (Some c.match-next.ended) None = none in absurd cc

pub invariant_of-self-in_err-ended : goal.invariant_of-self-in_err-ended
invariant_of-self-in_err-ended g c none = let no : ◌≡◌ {A = Option (Result Verdict Stop)} (Some c.match-next.ended) None = none in absurd cc
