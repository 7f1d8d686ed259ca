use Rattle.std.proofs.Common.{List, ◌≡◌, ◌+◌, ℕ, [], Option, Some, Ok, Err, refl, ◌∙◌, sym, arith, rules, ap, subst}
use Rattle.std.proofs.lemmas.Result.{err_from_is_err_and}
use Rattle.wsn_rules.specs.LeftOut.{events_without}
use Rattle.wsn_rules.specs.Meaning.{Message}
use Rattle.wsn_events.specs.declared.first_difference.FirstDifference.{FirstDifference}
use Rattle.wsn_events.specs.declared.comparing.Round.{Round}
use Rattle.wsn_events.specs.declared.comparing.Round.TheVariants.{Alike, Over}
use Rattle.wsn_rules.specs.SameMeaning.{IsAnAccepted}
use Rattle.wsn_events.specs.Comparing.{IsRoundOf}
use Rattle.wsn_events.specs.LeavingOut.{ReadsTurn}
use Rattle.wsn_events.specs.LentMessages.{lent_message}
use Rattle.wsn_events.specs.Turns.{OfEvent, meant_turn}
use Rattle.wsn_events.specs.declared.turn.Turn.TheVariants.{Lent}
use Rattle.wsn_events.proofs.LentTurns.{after_begun, after_readable, lent_reads, turn_reads}
use Rattle.wsn_events.specs.Excerpts.{KeepsOf, index_in, IsContrasted}
use Rattle.wsn_events.proofs.ComparedSources.{begins, begun, readable, gives_turn, stops}
use Rattle.wsn_events.proofs.ComparedRounds.{few_rounds}
use Rattle.wsn_events.proofs.Comparisons.{Compares, first_stops, second_stops}
use Rattle.wsn_events.proofs.KeptExcerpts.{contrasts, goes_on}
use Rattle.wsn_events.proofs.GivenBack.{same_pending, followed_back, difference_back, kept_back}
use Rattle.wsn_events.proofs.comparing.contrast.Goals as goal

pub loop-lent-init : goal.loop-lent-init
loop-lent-init g c = record {
  came = [];
  given = [];
  followed = begins c.args.without c.args.role c.args.limits c.args.first.now c.new-events.result c.new-events.ensures c.requires.first;
  other_came = [];
  other_given = [];
  other_followed = begins c.args.without c.args.role c.args.limits c.args.second.now c.new-others.result c.new-others.ensures c.requires.second;
  difference = (c.new-events.ensures.going, c.new-others.ensures.going, refl, refl);
  kept = tt;
  rounds = omega (arith, few_rounds c.args.role c.args.limits c.new-events.result c.new-events.ensures, few_rounds c.args.role c.args.limits c.new-others.result c.new-others.ensures);
}

pub turn_after-requires : goal.turn_after-requires
turn_after-requires g c = record {
  begun = let at = c.loop-lent.invariant in
      after_begun c.loop-lent.events c.take_message-lent.new.self c.take_message-lent.result c.take_message-lent.ensures (begun c.args.without c.args.role c.args.limits c.args.first.now c.loop-lent.first c.loop-lent.events at.came at.given at.followed);
  readable = let at = c.loop-lent.invariant in
      after_readable c.loop-lent.events c.take_message-lent.new.self c.take_message-lent.result c.take_message-lent.ensures c.args.without c.loop-lent.first (readable c.args.without c.args.role c.args.limits c.args.first.now c.loop-lent.first c.loop-lent.events at.came at.given at.followed);
}

pub turn_after-requires-in-loop-lent : goal.turn_after-requires-in-loop-lent
turn_after-requires-in-loop-lent g c = record {
  begun = let at = c.loop-lent.invariant in
      after_begun c.loop-lent.others c.take_other-other_lent.new.others c.take_other-other_lent.result c.take_other-other_lent.ensures (begun c.args.without c.args.role c.args.limits c.args.second.now c.loop-lent.second c.loop-lent.others at.other_came at.other_given at.other_followed);
  readable = let at = c.loop-lent.invariant in
      after_readable c.loop-lent.others c.take_other-other_lent.new.others c.take_other-other_lent.result c.take_other-other_lent.ensures c.args.without c.loop-lent.second (readable c.args.without c.args.role c.args.limits c.args.second.now c.loop-lent.second c.loop-lent.others at.other_came at.other_given at.other_followed);
}

pub returns-in_err-turn : goal.returns-in_err-turn
returns-in_err-turn g c =
    let out = err_from_is_err_and c.from_residual.result c.from_residual.ensures.1 in
    let at = c.loop-lent.invariant in
    let e = c.take_message-lent.ensures in
    let reads : ReadsTurn c.args.without c.loop-lent.first c.turn_after.new.input c.loop-lent.events c.turn_after.new.source c.turn_after.result = turn_reads c.loop-lent.events c.take_message-lent.new.self c.take_message-lent.result e c.args.without c.loop-lent.first (readable c.args.without c.args.role c.args.limits c.args.first.now c.loop-lent.first c.loop-lent.events at.came at.given at.followed) c.turn_after.new.input c.turn_after.new.source c.turn_after.result c.turn_after.ensures.lent c.turn_after.ensures.own in
    let stopped = stops c.args.without c.args.role c.args.limits c.args.first.now c.loop-lent.first c.turn_after.new.input c.loop-lent.events c.turn_after.new.source at.came at.given c.turn_after.result at.followed reads c.in_err-turn.field-0.0 c.in_err-turn.was in
    rw (out.1 ∙ ap Err out.2)
    (first_stops c.args.without c.args.role c.args.limits c.args.first.now c.turn_after.new.input c.args.second.now c.loop-lent.second c.loop-lent.others at.other_came at.other_given at.other_followed c.in_err-turn.field-0.0 stopped)

pub returns-in_err-other : goal.returns-in_err-other
returns-in_err-other g c =
    let out = err_from_is_err_and c.from_residual-in_err-other.result c.from_residual-in_err-other.ensures.1 in
    let at = c.loop-lent.invariant in
    let e = c.take_message-lent.ensures in
    let reads : ReadsTurn c.args.without c.loop-lent.first c.turn_after.new.input c.loop-lent.events c.turn_after.new.source c.turn_after.result = turn_reads c.loop-lent.events c.take_message-lent.new.self c.take_message-lent.result e c.args.without c.loop-lent.first (readable c.args.without c.args.role c.args.limits c.args.first.now c.loop-lent.first c.loop-lent.events at.came at.given at.followed) c.turn_after.new.input c.turn_after.new.source c.turn_after.result c.turn_after.ensures.lent c.turn_after.ensures.own in
    let d = c.take_other-other_lent.ensures in
    let other_reads : ReadsTurn c.args.without c.loop-lent.second c.turn_after-in-loop-lent.new.input c.loop-lent.others c.turn_after-in-loop-lent.new.source c.turn_after-in-loop-lent.result = turn_reads c.loop-lent.others c.take_other-other_lent.new.others c.take_other-other_lent.result d c.args.without c.loop-lent.second (readable c.args.without c.args.role c.args.limits c.args.second.now c.loop-lent.second c.loop-lent.others at.other_came at.other_given at.other_followed) c.turn_after-in-loop-lent.new.input c.turn_after-in-loop-lent.new.source c.turn_after-in-loop-lent.result c.turn_after-in-loop-lent.ensures.lent c.turn_after-in-loop-lent.ensures.own in
    let one = gives_turn c.args.without c.args.role c.args.limits c.args.first.now c.loop-lent.first c.turn_after.new.input c.loop-lent.events c.turn_after.new.source at.came at.given c.turn_after.result at.followed reads c.in_ok-turn.turn c.in_ok-turn.was in
    let stopped = stops c.args.without c.args.role c.args.limits c.args.second.now c.loop-lent.second c.turn_after-in-loop-lent.new.input c.loop-lent.others c.turn_after-in-loop-lent.new.source at.other_came at.other_given c.turn_after-in-loop-lent.result at.other_followed other_reads c.in_err-other.field-0.0 c.in_err-other.was in
    rw (out.1 ∙ ap Err out.2)
    (second_stops c.args.without c.args.role c.args.limits c.args.first.now c.turn_after.new.input c.args.second.now c.turn_after-in-loop-lent.new.input c.loop-lent.events c.turn_after.new.source at.came at.given (meant_turn c.turn_after.new.source c.in_ok-turn.turn) one c.in_err-other.field-0.0 stopped)

pub end_round-round-requires : goal.end_round-round-requires
end_round-round-requires g c = record {
  first = let at = c.loop-lent.invariant in
      let e = c.take_message-lent.ensures in
      let reads : ReadsTurn c.args.without c.loop-lent.first c.turn_after.new.input c.loop-lent.events c.turn_after.new.source c.turn_after.result = turn_reads c.loop-lent.events c.take_message-lent.new.self c.take_message-lent.result e c.args.without c.loop-lent.first (readable c.args.without c.args.role c.args.limits c.args.first.now c.loop-lent.first c.loop-lent.events at.came at.given at.followed) c.turn_after.new.input c.turn_after.new.source c.turn_after.result c.turn_after.ensures.lent c.turn_after.ensures.own in
      let one = gives_turn c.args.without c.args.role c.args.limits c.args.first.now c.loop-lent.first c.turn_after.new.input c.loop-lent.events c.turn_after.new.source at.came at.given c.turn_after.result at.followed reads c.in_ok-turn.turn c.in_ok-turn.was in
      one.lawful;
  second = let at = c.loop-lent.invariant in
      let d = c.take_other-other_lent.ensures in
      let other_reads : ReadsTurn c.args.without c.loop-lent.second c.turn_after-in-loop-lent.new.input c.loop-lent.others c.turn_after-in-loop-lent.new.source c.turn_after-in-loop-lent.result = turn_reads c.loop-lent.others c.take_other-other_lent.new.others c.take_other-other_lent.result d c.args.without c.loop-lent.second (readable c.args.without c.args.role c.args.limits c.args.second.now c.loop-lent.second c.loop-lent.others at.other_came at.other_given at.other_followed) c.turn_after-in-loop-lent.new.input c.turn_after-in-loop-lent.new.source c.turn_after-in-loop-lent.result c.turn_after-in-loop-lent.ensures.lent c.turn_after-in-loop-lent.ensures.own in
      let two = gives_turn c.args.without c.args.role c.args.limits c.args.second.now c.loop-lent.second c.turn_after-in-loop-lent.new.input c.loop-lent.others c.turn_after-in-loop-lent.new.source at.other_came at.other_given c.turn_after-in-loop-lent.result at.other_followed other_reads c.in_ok-other.other c.in_ok-other.was in
      two.lawful;
}

pub returns-in-Over : goal.returns-in-Over
returns-in-Over g c =
    let at = c.loop-lent.invariant in
    let e = c.take_message-lent.ensures in
    let reads : ReadsTurn c.args.without c.loop-lent.first c.turn_after.new.input c.loop-lent.events c.turn_after.new.source c.turn_after.result = turn_reads c.loop-lent.events c.take_message-lent.new.self c.take_message-lent.result e c.args.without c.loop-lent.first (readable c.args.without c.args.role c.args.limits c.args.first.now c.loop-lent.first c.loop-lent.events at.came at.given at.followed) c.turn_after.new.input c.turn_after.new.source c.turn_after.result c.turn_after.ensures.lent c.turn_after.ensures.own in
    let d = c.take_other-other_lent.ensures in
    let other_reads : ReadsTurn c.args.without c.loop-lent.second c.turn_after-in-loop-lent.new.input c.loop-lent.others c.turn_after-in-loop-lent.new.source c.turn_after-in-loop-lent.result = turn_reads c.loop-lent.others c.take_other-other_lent.new.others c.take_other-other_lent.result d c.args.without c.loop-lent.second (readable c.args.without c.args.role c.args.limits c.args.second.now c.loop-lent.second c.loop-lent.others at.other_came at.other_given at.other_followed) c.turn_after-in-loop-lent.new.input c.turn_after-in-loop-lent.new.source c.turn_after-in-loop-lent.result c.turn_after-in-loop-lent.ensures.lent c.turn_after-in-loop-lent.ensures.own in
    let one = gives_turn c.args.without c.args.role c.args.limits c.args.first.now c.loop-lent.first c.turn_after.new.input c.loop-lent.events c.turn_after.new.source at.came at.given c.turn_after.result at.followed reads c.in_ok-turn.turn c.in_ok-turn.was in
    let two = gives_turn c.args.without c.args.role c.args.limits c.args.second.now c.loop-lent.second c.turn_after-in-loop-lent.new.input c.loop-lent.others c.turn_after-in-loop-lent.new.source at.other_came at.other_given c.turn_after-in-loop-lent.result at.other_followed other_reads c.in_ok-other.other c.in_ok-other.was in
    let round : IsRoundOf (meant_turn c.turn_after.new.source c.in_ok-turn.turn) (meant_turn c.turn_after-in-loop-lent.new.source c.in_ok-other.other) (Over c.in-Over.verdict c.in-Over.other) = subst (λ (r : Round). IsRoundOf (meant_turn c.turn_after.new.source c.in_ok-turn.turn) (meant_turn c.turn_after-in-loop-lent.new.source c.in_ok-other.other) r) c.in-Over.is c.end_round-round.ensures.round in
    let same : c.end_round-round.new.difference ≡ c.loop-lent.difference =
    subst (λ (r : Round). KeepsOf r c.loop-lent.index c.turn_after.new.source (meant_turn c.turn_after.new.source c.in_ok-turn.turn) c.turn_after-in-loop-lent.new.source (meant_turn c.turn_after-in-loop-lent.new.source c.in_ok-other.other) c.loop-lent.difference c.end_round-round.new.difference) c.in-Over.is c.end_round-round.ensures.kept in
    let index : c.index_of.result ≡ index_in c.loop-lent.difference = c.index_of.ensures ∙ ap index_in same in
    subst (λ (d : Option FirstDifference). IsContrasted c.args.without c.args.role c.args.limits c.args.first.now c.turn_after.new.input c.args.second.now c.turn_after-in-loop-lent.new.input (Ok (c.outcome-compared.result, d))) (sym same)
    (contrasts c.args.without c.args.role c.args.limits c.args.first.now c.args.second.now c.turn_after.new.input c.turn_after-in-loop-lent.new.input c.loop-lent.events c.turn_after.new.source c.loop-lent.others c.turn_after-in-loop-lent.new.source
    at.came at.other_came at.given at.other_given (meant_turn c.turn_after.new.source c.in_ok-turn.turn) (meant_turn c.turn_after-in-loop-lent.new.source c.in_ok-other.other) one two c.loop-lent.index c.loop-lent.difference at.difference at.kept c.in-Over.verdict c.in-Over.other round c.outcome-compared.result
    (subst (λ (d : Option ℕ). Compares (events_without c.args.without) c.in-Over.verdict c.in-Over.other d c.outcome-compared.result) index (c.outcome-compared.ensures.answer (events_without c.args.without)))
    (λ k is. subst (λ (d : Option ℕ). (d ≡ Some k) × IsAnAccepted c.in-Over.verdict × IsAnAccepted c.in-Over.other) index (c.outcome-compared.ensures.differs k is)))

pub loop-lent-smaller : goal.loop-lent-smaller
loop-lent-smaller g c =
    let at = c.loop-lent.invariant in
    let e = c.take_message-lent.ensures in
    let reads : ReadsTurn c.args.without c.loop-lent.first c.turn_after.new.input c.loop-lent.events c.turn_after.new.source c.turn_after.result = turn_reads c.loop-lent.events c.take_message-lent.new.self c.take_message-lent.result e c.args.without c.loop-lent.first (readable c.args.without c.args.role c.args.limits c.args.first.now c.loop-lent.first c.loop-lent.events at.came at.given at.followed) c.turn_after.new.input c.turn_after.new.source c.turn_after.result c.turn_after.ensures.lent c.turn_after.ensures.own in
    let d = c.take_other-other_lent.ensures in
    let other_reads : ReadsTurn c.args.without c.loop-lent.second c.turn_after-in-loop-lent.new.input c.loop-lent.others c.turn_after-in-loop-lent.new.source c.turn_after-in-loop-lent.result = turn_reads c.loop-lent.others c.take_other-other_lent.new.others c.take_other-other_lent.result d c.args.without c.loop-lent.second (readable c.args.without c.args.role c.args.limits c.args.second.now c.loop-lent.second c.loop-lent.others at.other_came at.other_given at.other_followed) c.turn_after-in-loop-lent.new.input c.turn_after-in-loop-lent.new.source c.turn_after-in-loop-lent.result c.turn_after-in-loop-lent.ensures.lent c.turn_after-in-loop-lent.ensures.own in
    let one = gives_turn c.args.without c.args.role c.args.limits c.args.first.now c.loop-lent.first c.turn_after.new.input c.loop-lent.events c.turn_after.new.source at.came at.given c.turn_after.result at.followed reads c.in_ok-turn.turn c.in_ok-turn.was in
    let two = gives_turn c.args.without c.args.role c.args.limits c.args.second.now c.loop-lent.second c.turn_after-in-loop-lent.new.input c.loop-lent.others c.turn_after-in-loop-lent.new.source at.other_came at.other_given c.turn_after-in-loop-lent.result at.other_followed other_reads c.in_ok-other.other c.in_ok-other.was in
    let on = goes_on c.args.without c.args.role c.args.limits c.args.first.now c.args.second.now c.turn_after.new.input c.turn_after-in-loop-lent.new.input c.loop-lent.events c.turn_after.new.source c.loop-lent.others c.turn_after-in-loop-lent.new.source
    at.came at.other_came at.given at.other_given (meant_turn c.turn_after.new.source c.in_ok-turn.turn) (meant_turn c.turn_after-in-loop-lent.new.source c.in_ok-other.other) one two c.loop-lent.index c.loop-lent.difference c.end_round-round.new.difference c.end_round-round.result c.end_round-round.ensures.round c.in_default.not-Over c.end_round-round.ensures.kept at.difference at.kept in
    omega (arith, on.falls, same_pending c.turn_after.new.source c.give_back.new.source c.give_back.ensures, same_pending c.turn_after-in-loop-lent.new.source c.give_back-in-loop-lent.new.source c.give_back-in-loop-lent.ensures)

pub loop-lent-preserved : goal.loop-lent-preserved
loop-lent-preserved g c =
    let at = c.loop-lent.invariant in
    let e = c.take_message-lent.ensures in
    let reads : ReadsTurn c.args.without c.loop-lent.first c.turn_after.new.input c.loop-lent.events c.turn_after.new.source c.turn_after.result = turn_reads c.loop-lent.events c.take_message-lent.new.self c.take_message-lent.result e c.args.without c.loop-lent.first (readable c.args.without c.args.role c.args.limits c.args.first.now c.loop-lent.first c.loop-lent.events at.came at.given at.followed) c.turn_after.new.input c.turn_after.new.source c.turn_after.result c.turn_after.ensures.lent c.turn_after.ensures.own in
    let d = c.take_other-other_lent.ensures in
    let other_reads : ReadsTurn c.args.without c.loop-lent.second c.turn_after-in-loop-lent.new.input c.loop-lent.others c.turn_after-in-loop-lent.new.source c.turn_after-in-loop-lent.result = turn_reads c.loop-lent.others c.take_other-other_lent.new.others c.take_other-other_lent.result d c.args.without c.loop-lent.second (readable c.args.without c.args.role c.args.limits c.args.second.now c.loop-lent.second c.loop-lent.others at.other_came at.other_given at.other_followed) c.turn_after-in-loop-lent.new.input c.turn_after-in-loop-lent.new.source c.turn_after-in-loop-lent.result c.turn_after-in-loop-lent.ensures.lent c.turn_after-in-loop-lent.ensures.own in
    let one = gives_turn c.args.without c.args.role c.args.limits c.args.first.now c.loop-lent.first c.turn_after.new.input c.loop-lent.events c.turn_after.new.source at.came at.given c.turn_after.result at.followed reads c.in_ok-turn.turn c.in_ok-turn.was in
    let two = gives_turn c.args.without c.args.role c.args.limits c.args.second.now c.loop-lent.second c.turn_after-in-loop-lent.new.input c.loop-lent.others c.turn_after-in-loop-lent.new.source at.other_came at.other_given c.turn_after-in-loop-lent.result at.other_followed other_reads c.in_ok-other.other c.in_ok-other.was in
    let on = goes_on c.args.without c.args.role c.args.limits c.args.first.now c.args.second.now c.turn_after.new.input c.turn_after-in-loop-lent.new.input c.loop-lent.events c.turn_after.new.source c.loop-lent.others c.turn_after-in-loop-lent.new.source
    at.came at.other_came at.given at.other_given (meant_turn c.turn_after.new.source c.in_ok-turn.turn) (meant_turn c.turn_after-in-loop-lent.new.source c.in_ok-other.other) one two c.loop-lent.index c.loop-lent.difference c.end_round-round.new.difference c.end_round-round.result c.end_round-round.ensures.round c.in_default.not-Over c.end_round-round.ensures.kept at.difference at.kept in
    let events = c.give_back.new.source in
    let others = c.give_back-in-loop-lent.new.source in
    let back = c.give_back.ensures in
    let other_back = c.give_back-in-loop-lent.ensures in
    record {
      came = one.came;
      given = one.events;
      followed = followed_back c.turn_after.new.source events back c.args.role c.args.limits c.args.first.now c.turn_after.new.input one.came one.events one.followed;
      other_came = two.came;
      other_given = two.events;
      other_followed = followed_back c.turn_after-in-loop-lent.new.source others other_back c.args.role c.args.limits c.args.second.now c.turn_after-in-loop-lent.new.input two.came two.events two.followed;
      difference = difference_back c.turn_after.new.source events c.turn_after-in-loop-lent.new.source others back other_back (c.loop-lent.index + 1) (events_without c.args.without one.events) (events_without c.args.without two.events) (index_in c.end_round-round.new.difference) on.difference;
      kept = kept_back c.turn_after.new.source events c.turn_after-in-loop-lent.new.source others back other_back c.args.without c.args.role c.args.limits one.came one.events two.came two.events c.end_round-round.new.difference on.kept;
      rounds = let falls = on.falls in omega (arith, falls, at.rounds, same_pending c.turn_after.new.source events back, same_pending c.turn_after-in-loop-lent.new.source others other_back);
    }

pub loop-lent-smaller-then-are_alike : goal.loop-lent-smaller-then-are_alike
loop-lent-smaller-then-are_alike g c =
    let at = c.loop-lent.invariant in
    let e = c.take_message-lent.ensures in
    let d = c.take_other-other_lent.ensures in
    let alike = c.are_alike.ensures c.if-are_alike.true in
    let event = c.take_message-lent.new.self in
    let other = c.take_other-other_lent.new.others in
    let reads = lent_reads c.loop-lent.events event c.take_message-lent.result e c.args.without c.loop-lent.first (readable c.args.without c.args.role c.args.limits c.args.first.now c.loop-lent.first c.loop-lent.events at.came at.given at.followed) alike.kind alike.is in
    let other_reads = lent_reads c.loop-lent.others other c.take_other-other_lent.result d c.args.without c.loop-lent.second (readable c.args.without c.args.role c.args.limits c.args.second.now c.loop-lent.second c.loop-lent.others at.other_came at.other_given at.other_followed) alike.kind alike.other_is in
    let one = gives_turn c.args.without c.args.role c.args.limits c.args.first.now c.loop-lent.first c.loop-lent.first c.loop-lent.events event at.came at.given (Ok (Lent alike.kind)) at.followed reads (Lent alike.kind) refl in
    let two = gives_turn c.args.without c.args.role c.args.limits c.args.second.now c.loop-lent.second c.loop-lent.second c.loop-lent.others other at.other_came at.other_given (Ok (Lent alike.kind)) at.other_followed other_reads (Lent alike.kind) refl in
    let on = goes_on c.args.without c.args.role c.args.limits c.args.first.now c.args.second.now c.loop-lent.first c.loop-lent.second c.loop-lent.events event c.loop-lent.others other
    at.came at.other_came at.given at.other_given (OfEvent (lent_message event alike.kind)) (OfEvent (lent_message other alike.kind)) one two c.loop-lent.index c.loop-lent.difference c.loop-lent.difference Alike
    (ap (λ (bs : List ℕ). Message alike.kind bs) alike.same) (λ v w over. absurd cc) refl at.difference at.kept in
    on.falls

pub loop-lent-preserved-then-are_alike : goal.loop-lent-preserved-then-are_alike
loop-lent-preserved-then-are_alike g c =
    let at = c.loop-lent.invariant in
    let e = c.take_message-lent.ensures in
    let d = c.take_other-other_lent.ensures in
    let alike = c.are_alike.ensures c.if-are_alike.true in
    let event = c.take_message-lent.new.self in
    let other = c.take_other-other_lent.new.others in
    let reads = lent_reads c.loop-lent.events event c.take_message-lent.result e c.args.without c.loop-lent.first (readable c.args.without c.args.role c.args.limits c.args.first.now c.loop-lent.first c.loop-lent.events at.came at.given at.followed) alike.kind alike.is in
    let other_reads = lent_reads c.loop-lent.others other c.take_other-other_lent.result d c.args.without c.loop-lent.second (readable c.args.without c.args.role c.args.limits c.args.second.now c.loop-lent.second c.loop-lent.others at.other_came at.other_given at.other_followed) alike.kind alike.other_is in
    let one = gives_turn c.args.without c.args.role c.args.limits c.args.first.now c.loop-lent.first c.loop-lent.first c.loop-lent.events event at.came at.given (Ok (Lent alike.kind)) at.followed reads (Lent alike.kind) refl in
    let two = gives_turn c.args.without c.args.role c.args.limits c.args.second.now c.loop-lent.second c.loop-lent.second c.loop-lent.others other at.other_came at.other_given (Ok (Lent alike.kind)) at.other_followed other_reads (Lent alike.kind) refl in
    let on = goes_on c.args.without c.args.role c.args.limits c.args.first.now c.args.second.now c.loop-lent.first c.loop-lent.second c.loop-lent.events event c.loop-lent.others other
    at.came at.other_came at.given at.other_given (OfEvent (lent_message event alike.kind)) (OfEvent (lent_message other alike.kind)) one two c.loop-lent.index c.loop-lent.difference c.loop-lent.difference Alike
    (ap (λ (bs : List ℕ). Message alike.kind bs) alike.same) (λ v w over. absurd cc) refl at.difference at.kept in
    record {
      came = one.came;
      given = one.events;
      followed = one.followed;
      other_came = two.came;
      other_given = two.events;
      other_followed = two.followed;
      difference = on.difference;
      kept = on.kept;
      rounds = let falls = on.falls in omega (arith, falls, at.rounds);
    }

pub overflow_add-index-in-loop-lent : goal.overflow_add-index-in-loop-lent
overflow_add-index-in-loop-lent g c = search rules

pub same-others-in-loop-lent-2 : goal.same-others-in-loop-lent-2
same-others-in-loop-lent-2 g c = search rules

pub overflow_add-index : goal.overflow_add-index
overflow_add-index g c = search rules

pub same-others : goal.same-others
same-others g c = search rules

pub same-events : goal.same-events
same-events g c = search rules

pub same-others-in-loop-lent : goal.same-others-in-loop-lent
same-others-in-loop-lent g c = search rules
