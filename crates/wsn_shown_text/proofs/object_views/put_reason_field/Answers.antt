use Rattle.std.proofs.Common.{codes, sym, ◌∙◌}
use Rattle.wsn_print.specs.EscapedText.{quoted}
use Rattle.wsn_shown_text.specs.ShownObjects.{reason_field}
use Rattle.wsn_shown_text.proofs.Entries.{reason_field_is}
use Rattle.wsn_print.proofs.Pieces.{first_stops, two_pieces}
use Rattle.wsn_shown_text.proofs.object_views.put_reason_field.Goals as goal

pub returns-in_err-put_line-clause-text : goal.returns-in_err-put_line-clause-text
returns-in_err-put_line-clause-text g c = λ utf8.
    first_stops c.args.to.now c.put_line.new.to (codes ",\"reason\":") (quoted c.args.reason.now) (reason_field c.args.reason.now) c.in_err-put_line.field-0.0 c.from_residual.result (reason_field_is c.args.reason.now (sym c.is_empty.ensures ∙ c.if-is_empty.false)) (c.in_err-put_line.ensures) c.from_residual.ensures.1

pub returns-clause-text : goal.returns-clause-text
returns-clause-text g c = λ utf8.
    two_pieces c.args.to.now c.put_line.new.to c.put_quoted.new.to (codes ",\"reason\":") (quoted c.args.reason.now) (reason_field c.args.reason.now) c.put_quoted.result (reason_field_is c.args.reason.now (sym c.is_empty.ensures ∙ c.if-is_empty.false)) (c.in_ok-put_line.ensures) (c.put_quoted.ensures.text utf8)
