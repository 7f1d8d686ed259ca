use Rattle.std.proofs.Common.{◌≡◌, ◌++◌, Ok, Err, sym, ap, ◌∙◌, subst, rules, arith}
use Rattle.std.proofs.lemmas.Result.{err_from_is_err_and}
use Rattle.wsn_events.specs.Turns.{GivesEvent}
use Rattle.wsn_events.proofs.PassedOver.{is_event, event_after, stays_ended, never_ended, passed_none, returns, passes}
use Rattle.wsn_events.proofs.leaving_out.turn_without.Goals as goal

pub loop-without-init : goal.loop-without-init
loop-without-init g c = record {
  read = λ role limits came given has. passed_none c.args.without role limits c.args.input.now came given c.args.source.now has;
  begun = c.requires.begun;
  readable = c.requires.readable;
  left = omega arith;
  again = search rules;
}

pub next_turn-requires : goal.next_turn-requires
next_turn-requires g c = search rules

pub returns-in_err-next_turn : goal.returns-in_err-next_turn
returns-in_err-next_turn g c = record {
  next = λ role limits came given has.
      let out = err_from_is_err_and c.from_residual.result c.from_residual.ensures.1 in
      let is : c.from_residual.result ≡ Err c.in_err-next_turn.field-0.0 = out.1 ∙ ap Err out.2 in
      let read = c.loop-without.invariant.read role limits came given has in
      returns c.args.without role limits c.args.input.now came given c.loop-without.input c.next_turn.new.input c.loop-without.source c.next_turn.new.self read c.next_turn.result
      (c.next_turn.ensures.next role limits (came ++ read.more) (given ++ read.passed) read.has) c.from_residual.result (c.in_err-next_turn.was ∙ sym is);
  not_left_out = search rules;
  falls = search rules;
  again = λ answer ended.
      let out = err_from_is_err_and c.from_residual.result c.from_residual.ensures.1 in
      let is : c.from_residual.result ≡ Err c.in_err-next_turn.field-0.0 = out.1 ∙ ap Err out.2 in
      stays_ended c.loop-without.input c.next_turn.new.input c.loop-without.source c.next_turn.new.self c.next_turn.result c.next_turn.ensures.next c.next_turn.ensures.again
      c.args.source.now c.args.input.now c.from_residual.result (c.in_err-next_turn.was ∙ sym is) answer ended (c.loop-without.invariant.again answer ended);
}

pub returns-in-Some : goal.returns-in-Some
returns-in-Some g c = record {
  next = λ role limits came given has.
      let read = c.loop-without.invariant.read role limits came given has in
      returns c.args.without role limits c.args.input.now came given c.loop-without.input c.next_turn.new.input c.loop-without.source c.next_turn.new.self read c.next_turn.result
      (c.next_turn.ensures.next role limits (came ++ read.more) (given ++ read.passed) read.has) (Ok c.in-Some.turn) (c.in_ok-next_turn.was ∙ ap Ok (sym c.in-Some.ensures.0));
  not_left_out = search rules;
  falls = λ is.
      let event = subst (λ (r : _). GivesEvent r) (sym (c.in_ok-next_turn.was ∙ ap Ok (sym c.in-Some.ensures.0))) is in
      omega (arith, c.next_turn.ensures.falls event, c.loop-without.invariant.left);
  again = λ answer ended.
      stays_ended c.loop-without.input c.next_turn.new.input c.loop-without.source c.next_turn.new.self c.next_turn.result c.next_turn.ensures.next c.next_turn.ensures.again
      c.args.source.now c.args.input.now (Ok c.in-Some.turn) (c.in_ok-next_turn.was ∙ ap Ok (sym c.in-Some.ensures.0)) answer ended (c.loop-without.invariant.again answer ended);
}

pub loop-without-smaller : goal.loop-without-smaller
loop-without-smaller g c =
    let event = subst (λ (r : _). GivesEvent r) (sym c.in_ok-next_turn.was) (is_event c.args.without c.in_ok-next_turn.field-0 c.in_default.ensures) in
    c.next_turn.ensures.falls event

pub loop-without-preserved : goal.loop-without-preserved
loop-without-preserved g c =
    let event = subst (λ (r : _). GivesEvent r) (sym c.in_ok-next_turn.was) (is_event c.args.without c.in_ok-next_turn.field-0 c.in_default.ensures) in
    let after = event_after c.loop-without.input c.next_turn.new.input c.loop-without.source c.next_turn.new.self c.next_turn.result c.next_turn.ensures.next c.next_turn.ensures.again c.loop-without.invariant.begun event in
    record {
      read = λ role limits came given has.
          let read = c.loop-without.invariant.read role limits came given has in
          passes c.args.without role limits c.args.input.now came given c.loop-without.input c.next_turn.new.input c.loop-without.source c.next_turn.new.self read c.next_turn.result
          (c.next_turn.ensures.next role limits (came ++ read.more) (given ++ read.passed) read.has) c.in_ok-next_turn.field-0 c.in_ok-next_turn.was c.in_default.ensures;
      begun = λ none. after.0;
      readable = λ none. after.1;
      left = omega (arith, c.next_turn.ensures.falls event, c.loop-without.invariant.left);
      again = λ answer ended.
          never_ended c.loop-without.input c.next_turn.new.input c.loop-without.source c.next_turn.new.self c.next_turn.result c.next_turn.ensures.next c.next_turn.ensures.again
          c.args.source.now c.args.input.now event answer ended (c.loop-without.invariant.again answer ended);
    }
