use Rattle.std.proofs.Common.{◌++◌, chars, codes, refl}
use Rattle.std.specs.Prelude.{flat_map}
use Rattle.wsn_shown_text.specs.AsciiText.{ascii_character, ascii_quoted}
use Rattle.wsn_print.proofs.Pieces.{first_stops, second_stops, three_pieces}
use Rattle.wsn_shown_text.proofs.ascii_text.put_ascii_quoted.Goals as goal

pub returns-in_err-put_line : goal.returns-in_err-put_line
returns-in_err-put_line g c =
    first_stops c.args.to.now c.put_line.new.to (codes "\"") (flat_map ascii_character (chars c.args.text.now) ++ codes "\"") (ascii_quoted c.args.text.now) c.in_err-put_line.field-0.0 c.from_residual.result refl c.in_err-put_line.ensures c.from_residual.ensures.1

pub returns-in_err-put_ascii_characters : goal.returns-in_err-put_ascii_characters
returns-in_err-put_ascii_characters g c =
    second_stops c.args.to.now c.put_line.new.to c.put_ascii_characters.new.to (codes "\"") (flat_map ascii_character (chars c.args.text.now)) (codes "\"") (ascii_quoted c.args.text.now) c.in_err-put_ascii_characters.field-0.0 c.from_residual-in_err-put_ascii_characters.result refl c.in_ok-put_line.ensures c.in_err-put_ascii_characters.ensures c.from_residual-in_err-put_ascii_characters.ensures.1

pub returns : goal.returns
returns g c =
    three_pieces c.args.to.now c.put_line.new.to c.put_ascii_characters.new.to c.put_line-2.new.to (codes "\"") (flat_map ascii_character (chars c.args.text.now)) (codes "\"") (ascii_quoted c.args.text.now) c.put_line-2.result refl c.in_ok-put_line.ensures c.in_ok-put_ascii_characters.ensures c.put_line-2.ensures
