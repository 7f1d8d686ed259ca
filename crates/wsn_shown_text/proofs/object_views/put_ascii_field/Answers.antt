use Rattle.std.proofs.Common.{codes, refl}
use Rattle.wsn_print.specs.Json.{field}
use Rattle.wsn_shown_text.specs.AsciiText.{ascii_quoted}
use Rattle.wsn_print.proofs.Pieces.{first_stops, two_pieces}
use Rattle.wsn_shown_text.proofs.object_views.put_ascii_field.Goals as goal

pub returns-in_err-put_line : goal.returns-in_err-put_line
returns-in_err-put_line g c =
    first_stops c.args.to.now c.put_line.new.to (codes ",\"text\":") (ascii_quoted c.args.text.now) (field (codes "text") (ascii_quoted c.args.text.now)) c.in_err-put_line.field-0.0 c.from_residual.result refl c.in_err-put_line.ensures c.from_residual.ensures.1

pub returns : goal.returns
returns g c =
    two_pieces c.args.to.now c.put_line.new.to c.put_ascii_quoted.new.to (codes ",\"text\":") (ascii_quoted c.args.text.now) (field (codes "text") (ascii_quoted c.args.text.now)) c.put_ascii_quoted.result refl c.in_ok-put_line.ensures c.put_ascii_quoted.ensures
