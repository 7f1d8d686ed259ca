use Rattle.std.proofs.Common.{ℕ, List, ◌++◌, codes, sym, append_assoc}
use Rattle.wsn_shown_text.specs.declared.fields.Shape.TheVariants as shapes
use Rattle.wsn_print.specs.ShownParts.{character_in}
use Rattle.wsn_shown_text.specs.Views.{view_of_end}
use Rattle.wsn_shown_text.specs.CharacterText.{character_fields}
use Rattle.wsn_shown_text.specs.ShownObjects.{end_fields}
use Rattle.wsn_shown_text.specs.ShownItems.{evidence_in}
use Rattle.wsn_print.proofs.Pieces.{first_stops, second_stops, three_pieces}
use Rattle.wsn_shown_text.proofs.items.put_evidence_fields.Goals as goal

pub returns-in_err-put_end_fields : goal.returns-in_err-put_end_fields
returns-in_err-put_end_fields g c = λ all role at holds.
    let n = c.args.view in
    let character = character_in c.args.character.now in
    let end = end_fields (view_of_end n all) in
    let fields = character_fields n all character in
    first_stops c.args.to.now c.put_end_fields.new.to end (fields ++ codes "}\n") (evidence_in shapes.Object n role at all character) c.in_err-put_end_fields.field-0.0 c.from_residual.result
    (sym (append_assoc end fields (codes "}\n"))) (c.in_err-put_end_fields.ensures.text (view_of_end n all) (c.view_of_end.ensures all holds)) c.from_residual.ensures.1

pub returns-in_err-put_character_fields : goal.returns-in_err-put_character_fields
returns-in_err-put_character_fields g c = λ all role at holds.
    let n = c.args.view in
    let character = character_in c.args.character.now in
    let end = end_fields (view_of_end n all) in
    let fields = character_fields n all character in
    second_stops c.args.to.now c.put_end_fields.new.to c.put_character_fields.new.to end fields (codes "}\n") (evidence_in shapes.Object n role at all character) c.in_err-put_character_fields.field-0.0 c.from_residual-in_err-put_character_fields.result
    (sym (append_assoc end fields (codes "}\n"))) (c.in_ok-put_end_fields.ensures.text (view_of_end n all) (c.view_of_end.ensures all holds)) (c.in_err-put_character_fields.ensures.text all holds) c.from_residual-in_err-put_character_fields.ensures.1

pub returns : goal.returns
returns g c = λ all role at holds.
    let n = c.args.view in
    let character = character_in c.args.character.now in
    let end = end_fields (view_of_end n all) in
    let fields = character_fields n all character in
    three_pieces c.args.to.now c.put_end_fields.new.to c.put_character_fields.new.to c.put_line.new.to end fields (codes "}\n") (evidence_in shapes.Object n role at all character) c.put_line.result
    (sym (append_assoc end fields (codes "}\n"))) (c.in_ok-put_end_fields.ensures.text (view_of_end n all) (c.view_of_end.ensures all holds)) (c.in_ok-put_character_fields.ensures.text all holds) c.put_line.ensures
