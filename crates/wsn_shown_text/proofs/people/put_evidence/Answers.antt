use Rattle.std.proofs.Common.{◌≡◌, ℕ, ◌≢◌, Bool, nat_lt, if◌then◌else◌, Option, None, Some, List, [], ◌∷◌, ◌++◌, length, replicate, codes, decimal, refl, sym, ap, ◌∙◌, subst, append_assoc, append-nil, rules}
use Rattle.wsn_io.specs.Transfer.{IsWritten, IsPartlyWritten}
use Rattle.wsn_io.specs.declared.stop.Stop.TheVariants as stop
use Rattle.wsn_io.specs.Stops.{IsWrittenOrStops}
use Rattle.wsn_print.proofs.Pieces.{first_stops, second_stops, three_pieces}
use Rattle.wsn_shown_text.specs.PeopleText.{people_end, people_bad}
use Rattle.wsn_print.specs.ShownParts.{character_in}
use Rattle.wsn_shown_text.specs.Views.{view_of_end}
use Rattle.wsn_shown_text.proofs.people.put_evidence.Goals as goal

pub returns-in_err-put_people_end : goal.returns-in_err-put_people_end
returns-in_err-put_people_end g c = λ all holds.
    let n = c.args.view in
    let end = people_end n (view_of_end n all) in
    let bad = people_bad n all (character_in c.args.character.now) in
    first_stops c.args.to.now c.put_people_end.new.to (end) ((bad) ++ (codes "\n")) (end ++ bad ++ codes "\n") c.in_err-put_people_end.field-0.0 c.from_residual.result
    (sym (append_assoc end bad (codes "\n"))) (c.in_err-put_people_end.ensures (view_of_end n all) (c.view_of_end.ensures all holds)) c.from_residual.ensures.1

pub returns-in_err-put_people_bad : goal.returns-in_err-put_people_bad
returns-in_err-put_people_bad g c = λ all holds.
    let n = c.args.view in
    let end = people_end n (view_of_end n all) in
    let bad = people_bad n all (character_in c.args.character.now) in
    second_stops c.args.to.now c.put_people_end.new.to c.put_people_bad.new.to (end) (bad) (codes "\n") (end ++ bad ++ codes "\n") c.in_err-put_people_bad.field-0.0 c.from_residual-in_err-put_people_bad.result
    (sym (append_assoc end bad (codes "\n"))) (c.in_ok-put_people_end.ensures (view_of_end n all) (c.view_of_end.ensures all holds)) (c.in_err-put_people_bad.ensures.text all holds) c.from_residual-in_err-put_people_bad.ensures.1

pub returns : goal.returns
returns g c = λ all holds.
    let n = c.args.view in
    let end = people_end n (view_of_end n all) in
    let bad = people_bad n all (character_in c.args.character.now) in
    three_pieces c.args.to.now c.put_people_end.new.to c.put_people_bad.new.to c.put_line.new.to (end) (bad) (codes "\n") (end ++ bad ++ codes "\n") c.put_line.result
    (sym (append_assoc end bad (codes "\n"))) (c.in_ok-put_people_end.ensures (view_of_end n all) (c.view_of_end.ensures all holds)) (c.in_ok-put_people_bad.ensures.text all holds) (c.put_line.ensures)
