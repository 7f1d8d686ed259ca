use Rattle.std.proofs.Common.{ap}
use Rattle.wsn_shown_text.specs.ShownObjects.{hex_field, truncated_field, end_fields}
use Rattle.wsn_shown_text.specs.Views.{end_in}
use Rattle.wsn_print.proofs.Pieces.{first_stops, two_pieces}
use Rattle.wsn_shown_text.proofs.object_views.put_end_fields.Goals as goal

pub returns-in_err-put_hex_field-clause-text : goal.returns-in_err-put_hex_field-clause-text
returns-in_err-put_hex_field-clause-text g c = λ e is.
    let end = end_in c.args.end.now in
    first_stops c.args.to.now c.put_hex_field.new.to (hex_field end.bytes) (truncated_field end.more) (end_fields e) c.in_err-put_hex_field.field-0.0 c.from_residual.result (ap end_fields is) c.in_err-put_hex_field.ensures c.from_residual.ensures.1

pub returns-clause-text : goal.returns-clause-text
returns-clause-text g c = λ e is.
    let end = end_in c.args.end.now in
    two_pieces c.args.to.now c.put_hex_field.new.to c.put_truncated.new.to (hex_field end.bytes) (truncated_field end.more) (end_fields e) c.put_truncated.result (ap end_fields is) c.in_ok-put_hex_field.ensures c.put_truncated.ensures
