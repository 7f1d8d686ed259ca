use Rattle.std.proofs.Common.{Option, [], sym, subst, rules}
use Rattle.wsn_io.specs.Transfer.{IsWritten}
use Rattle.wsn_io.specs.Stops.{IsWrittenOrStops}
use Rattle.wsn_print.specs.declared.shown.ShownCharacter.{ShownCharacter}
use Rattle.wsn_print.specs.ShownParts.{character_in}
use Rattle.wsn_shown_text.specs.CharacterText.{character_fields}
use Rattle.wsn_shown_text.proofs.characters.put_character_fields.Goals as goal

pub put_character_field-requires : goal.put_character_field-requires
put_character_field-requires g c = search rules

pub returns-in-Some-clause-unfailed : goal.returns-in-Some-clause-unfailed
returns-in-Some-clause-unfailed g c = search rules

pub returns-in-None-clause-unfailed : goal.returns-in-None-clause-unfailed
returns-in-None-clause-unfailed g c = search rules

pub returns-in-Some-clause-text : goal.returns-in-Some-clause-text
returns-in-Some-clause-text g c = λ all holds.
    subst (λ (character : Option ShownCharacter). IsWrittenOrStops c.args.to.now c.put_character_field.new.to (character_fields c.args.view all (character_in character)) c.put_character_field.result)
    (sym c.in-Some.is) (c.put_character_field.ensures.text all holds)

pub returns-in-None-clause-text : goal.returns-in-None-clause-text
returns-in-None-clause-text g c = λ all holds.
    let nothing : IsWritten c.args.to.now c.args.to.now [] = search rules in
    subst (λ (character : Option ShownCharacter). IsWritten c.args.to.now c.args.to.now (character_fields c.args.view all (character_in character))) (sym c.in-None.is) nothing
