use Rattle.std.proofs.Common.{◌≡◌, ℕ, List, codes, refl, ◌∙◌, subst}
use Rattle.wsn_io.specs.Transfer.{IsWritten, IsPartlyWritten}
use Rattle.wsn_io.specs.declared.stop.Stop.TheVariants as stop
use Rattle.wsn_print.specs.Json.{number_field}
use Rattle.wsn_shown_text.specs.ShownObjects.{reason_field, shown_fields}
use Rattle.wsn_shown_text.specs.Views.Shown.{Code}
use Rattle.wsn_print.proofs.Pieces.{first_stops, two_pieces}
use Rattle.wsn_shown_text.proofs.object_views.put_code_fields.Goals as goal

pub returns-in_err-put_line-clause-text : goal.returns-in_err-put_line-clause-text
returns-in_err-put_line-clause-text g c = λ utf8.
    first_stops c.args.to.now c.put_line.new.to (number_field (codes "code") c.args.code) (reason_field c.args.reason.now) (shown_fields (Code c.args.code c.args.reason.now)) c.in_err-put_line.field-0.0 c.from_residual.result refl
    (subst (λ (t : List ℕ). (c.in_err-put_line.field-0.0 ≡ stop.Write) × IsPartlyWritten c.args.to.now c.put_line.new.to t) (c.bytes.ensures ∙ c.line_of_code.ensures) c.in_err-put_line.ensures) c.from_residual.ensures.1

pub returns-clause-text : goal.returns-clause-text
returns-clause-text g c = λ utf8.
    two_pieces c.args.to.now c.put_line.new.to c.put_reason_field.new.to (number_field (codes "code") c.args.code) (reason_field c.args.reason.now) (shown_fields (Code c.args.code c.args.reason.now)) c.put_reason_field.result refl
    (subst (IsWritten c.args.to.now c.put_line.new.to) (c.bytes.ensures ∙ c.line_of_code.ensures) c.in_ok-put_line.ensures) (c.put_reason_field.ensures.text utf8)
