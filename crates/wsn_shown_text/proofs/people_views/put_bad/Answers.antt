use Rattle.std.proofs.Common.{◌≡◌, ℕ, ◌≢◌, Bool, nat_lt, if◌then◌else◌, Option, None, Some, List, [], ◌∷◌, ◌++◌, length, replicate, codes, decimal, refl, sym, ap, ◌∙◌, subst, append_assoc, append-nil, rules}
use Rattle.wsn_io.specs.Transfer.{IsWritten, IsPartlyWritten}
use Rattle.wsn_io.specs.declared.stop.Stop.TheVariants as stop
use Rattle.wsn_io.specs.Stops.{IsWrittenOrStops}
use Rattle.wsn_print.proofs.Pieces.{first_stops, two_pieces}
use Rattle.wsn_shown_text.specs.PeopleText.{people_character, people_bad}
use Rattle.wsn_print.specs.ShownParts.{character_of}
use Rattle.wsn_shown_text.proofs.people_views.put_bad.Goals as goal

pub returns-in_err-put_line-clause-text : goal.returns-in_err-put_line-clause-text
returns-in_err-put_line-clause-text g c = λ all holds.
    let n = c.args.limit in
    let character = character_of c.args.character.now in
    first_stops c.args.to.now c.put_line.new.to (codes "\n                                ") (people_character n all character) (people_bad n all (Some character)) c.in_err-put_line.field-0.0 c.from_residual.result
    (refl) (c.in_err-put_line.ensures) c.from_residual.ensures.1

pub returns-clause-text : goal.returns-clause-text
returns-clause-text g c = λ all holds.
    let n = c.args.limit in
    let character = character_of c.args.character.now in
    two_pieces c.args.to.now c.put_line.new.to c.put_people_character.new.to (codes "\n                                ") (people_character n all character) (people_bad n all (Some character)) c.put_people_character.result
    (refl) (c.in_ok-put_line.ensures) (c.put_people_character.ensures.text all holds)
