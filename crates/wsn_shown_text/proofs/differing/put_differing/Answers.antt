use Rattle.std.proofs.Common.{ℕ, Option, List, subst}
use Rattle.wsn_io.specs.Stops.{IsWrittenOrStops}
use Rattle.wsn_rules.specs.Meaning.{MeantEvent}
use Rattle.wsn_print.specs.declared.shown.DifferingPayloads.{DifferingPayloads}
use Rattle.wsn_print.specs.DifferingPayloads.{place_in, event_in, StandsForPayloads}
use Rattle.wsn_shown_text.specs.DifferingText.{parts_in}
use Rattle.wsn_shown_text.proofs.DifferingParts.{no_place_is, of_place, of_no_place}
use Rattle.wsn_shown_text.proofs.differing.put_differing.Goals as goal

pub returns-in-Some-clause-text : goal.returns-in-Some-clause-text
returns-in-Some-clause-text g c = λ one other stands.
    of_place c.args.view c.in-Some.differing (place_in (event_in one) (event_in other)) (event_in one) (event_in other) (subst (λ (d : Option DifferingPayloads). StandsForPayloads c.args.view d one other) c.in-Some.is stands)
    (λ (place : Option ℕ) (event two : Option MeantEvent). IsWrittenOrStops c.args.to.now c.put_place.new.to (parts_in c.args.shape c.args.view place event two) c.put_place.result)
    c.put_place.ensures.text

pub returns-in-None-clause-text : goal.returns-in-None-clause-text
returns-in-None-clause-text g c = λ one other stands.
    of_no_place c.args.view (place_in (event_in one) (event_in other)) (event_in one) (event_in other) (subst (λ (d : Option DifferingPayloads). StandsForPayloads c.args.view d one other) c.in-None.is stands)
    (λ (place : Option ℕ). IsWrittenOrStops c.args.to.now c.put_piece.new.to (parts_in c.args.shape c.args.view place (event_in one) (event_in other)) c.put_piece.result)
    (subst (λ (text : List ℕ). IsWrittenOrStops c.args.to.now c.put_piece.new.to text c.put_piece.result) (no_place_is c.args.shape c.args.view (event_in one) (event_in other)) c.put_piece.ensures.text)
