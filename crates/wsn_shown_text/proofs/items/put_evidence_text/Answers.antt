use Rattle.std.proofs.Common.{◌≡◌, ℕ, Option, None, Some, List, [], ◌++◌, codes, sym, ap, ◌∙◌, subst, append_assoc, append-nil}
use Rattle.wsn_io.specs.Transfer.{IsWritten}
use Rattle.wsn_io.specs.Stops.{IsWrittenOrStops}
use Rattle.wsn_io.proofs.PutTexts.{put_both}
use Rattle.wsn_shown_text.specs.declared.fields.Shape.TheVariants as shapes
use Rattle.wsn_print.specs.declared.shown.ShownCharacter.{ShownCharacter}
use Rattle.wsn_print.specs.ShownParts.{time_at, position_of, character_in, character_of}
use Rattle.wsn_shown_text.specs.Views.{view_of_end}
use Rattle.wsn_shown_text.specs.ShownText.{end_view}
use Rattle.wsn_shown_text.specs.CharacterText.{character_line, character_lines}
use Rattle.wsn_shown_text.specs.ShownItems.{evidence_in}
use Rattle.wsn_print.proofs.Pieces.{first_stops, second_stops, three_pieces}
use Rattle.wsn_shown_text.proofs.items.put_evidence_text.Goals as goal

pub returns-in_err-put_end_text : goal.returns-in_err-put_end_text
returns-in_err-put_end_text g c = λ all holds.
    let n = c.args.view in
    let role = c.args.front.now.role in
    let at = position_of c.args.front.now.origin in
    let character = character_in c.args.character.now in
    let lines = character_lines n role (time_at at) all character in
    first_stops c.args.to.now c.put_end_text.new.to (end_view n all) (codes "\n" ++ lines) (evidence_in shapes.Line n role at all character) c.in_err-put_end_text.field-0.0 c.from_residual.result
    (sym (append_assoc (end_view n all) (codes "\n") lines)) (c.in_err-put_end_text.ensures.text (view_of_end n all) (c.view_of_end.ensures all holds)) c.from_residual.ensures.1

pub returns-in_err-put_line : goal.returns-in_err-put_line
returns-in_err-put_line g c = λ all holds.
    let n = c.args.view in
    let role = c.args.front.now.role in
    let at = position_of c.args.front.now.origin in
    let character = character_in c.args.character.now in
    let lines = character_lines n role (time_at at) all character in
    second_stops c.args.to.now c.put_end_text.new.to c.put_line.new.to (end_view n all) (codes "\n") lines (evidence_in shapes.Line n role at all character) c.in_err-put_line.field-0.0 c.from_residual-in_err-put_line.result
    (sym (append_assoc (end_view n all) (codes "\n") lines)) (c.in_ok-put_end_text.ensures.text (view_of_end n all) (c.view_of_end.ensures all holds)) c.in_err-put_line.ensures c.from_residual-in_err-put_line.ensures.1

pub returns-in-Some : goal.returns-in-Some
returns-in-Some g c = λ all holds.
    let n = c.args.view in
    let role = c.args.front.now.role in
    let at = position_of c.args.front.now.origin in
    let of = c.in-Some.character in
    let line = character_line n role (time_at at) all (character_of of) in
    subst (λ (o : Option ShownCharacter). IsWrittenOrStops c.args.to.now c.put_character_line.new.to (evidence_in shapes.Line n role at all (character_in o)) c.put_character_line.result) (sym c.in-Some.is)
    (three_pieces c.args.to.now c.put_end_text.new.to c.put_line.new.to c.put_character_line.new.to (end_view n all) (codes "\n") line (evidence_in shapes.Line n role at all (Some (character_of of))) c.put_character_line.result
    (sym (append_assoc (end_view n all) (codes "\n") line)) (c.in_ok-put_end_text.ensures.text (view_of_end n all) (c.view_of_end.ensures all holds)) c.in_ok-put_line.ensures (c.put_character_line.ensures all holds))

pub returns-in-None : goal.returns-in-None
returns-in-None g c = λ all holds.
    let n = c.args.view in
    let role = c.args.front.now.role in
    let at = position_of c.args.front.now.origin in
    subst (λ (o : Option ShownCharacter). IsWritten c.args.to.now c.put_line.new.to (evidence_in shapes.Line n role at all (character_in o))) (sym c.in-None.is)
    (subst (IsWritten c.args.to.now c.put_line.new.to) (sym (append-nil (end_view n all ++ codes "\n")))
    (put_both c.args.to.now c.put_end_text.new.to c.put_line.new.to (end_view n all) (codes "\n") (c.in_ok-put_end_text.ensures.text (view_of_end n all) (c.view_of_end.ensures all holds)) c.in_ok-put_line.ensures))
