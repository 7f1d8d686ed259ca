use Rattle.std.proofs.Common.{◌++◌, codes, refl}
use Rattle.hex.specs.Hex.{encode_lower}
use Rattle.wsn_shown_text.specs.ShownObjects.{hex_field}
use Rattle.wsn_print.proofs.Pieces.{first_stops, second_stops, three_pieces}
use Rattle.wsn_shown_text.proofs.object_views.put_hex_field.Goals as goal

pub returns-in_err-put_line : goal.returns-in_err-put_line
returns-in_err-put_line g c =
    first_stops c.args.to.now c.put_line.new.to (codes ",\"hex\":\"") ((encode_lower c.args.bytes.now) ++ (codes "\"")) (hex_field c.args.bytes.now) c.in_err-put_line.field-0.0 c.from_residual.result (refl) (c.in_err-put_line.ensures) c.from_residual.ensures.1

pub returns-in_err-put_hex : goal.returns-in_err-put_hex
returns-in_err-put_hex g c =
    second_stops c.args.to.now c.put_line.new.to c.put_hex.new.to (codes ",\"hex\":\"") (encode_lower c.args.bytes.now) (codes "\"") (hex_field c.args.bytes.now) c.in_err-put_hex.field-0.0 c.from_residual-in_err-put_hex.result (refl) (c.in_ok-put_line.ensures) (c.in_err-put_hex.ensures) c.from_residual-in_err-put_hex.ensures.1

pub returns : goal.returns
returns g c =
    three_pieces c.args.to.now c.put_line.new.to c.put_hex.new.to c.put_line-2.new.to (codes ",\"hex\":\"") (encode_lower c.args.bytes.now) (codes "\"") (hex_field c.args.bytes.now) c.put_line-2.result (refl) (c.in_ok-put_line.ensures) (c.in_ok-put_hex.ensures) (c.put_line-2.ensures)
