use Rattle.std.proofs.Common.{ℕ, Option, List, [], sym, subst, rules}
use Rattle.wsn_io.specs.Transfer.{IsWritten}
use Rattle.wsn_io.specs.Stops.{IsWrittenOrStops}
use Rattle.wsn_print.specs.declared.shown.ShownCharacter.{ShownCharacter}
use Rattle.wsn_print.specs.ShownParts.{character_in}
use Rattle.wsn_shown_text.specs.PeopleText.{people_bad}
use Rattle.wsn_shown_text.proofs.people_views.put_people_bad.Goals as goal

pub returns-in-Some-clause-text : goal.returns-in-Some-clause-text
returns-in-Some-clause-text g c = λ all holds.
    subst (λ (o : Option ShownCharacter). IsWrittenOrStops c.args.to.now c.put_bad.new.to (people_bad c.args.limit all (character_in o)) c.put_bad.result) (sym c.in-Some.is) (c.put_bad.ensures.text all holds)

pub returns-in-None-clause-text : goal.returns-in-None-clause-text
returns-in-None-clause-text g c = λ all holds.
    let nothing : IsWritten c.args.to.now c.args.to.now [] = search rules in
    subst (λ (o : Option ShownCharacter). IsWritten c.args.to.now c.args.to.now (people_bad c.args.limit all (character_in o))) (sym c.in-None.is) nothing
