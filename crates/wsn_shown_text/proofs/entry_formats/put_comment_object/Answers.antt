use Rattle.std.proofs.Common.{◌≡◌, ℕ, List, ◌++◌, drop, codes, append_assoc, ◌∙◌, subst, sym, ap}
use Rattle.wsn_io.specs.Transfer.{IsWritten, IsPartlyWritten}
use Rattle.wsn_io.specs.declared.stop.Stop.TheVariants as stop
use Rattle.wsn_shown_text.specs.ShownObjects.{comment_field, comment_object}
use Rattle.wsn_print.specs.Json.{number_field}
use Rattle.wsn_print.proofs.Pieces.{first_stops, second_stops, three_pieces}
use Rattle.wsn_shown_text.proofs.entry_formats.put_comment_object.Goals as goal

pub returns-in_err-put_line : goal.returns-in_err-put_line
returns-in_err-put_line g c =
    let front = codes "{\"type\":\"comment\"" ++ number_field (codes "line") c.args.number in
    first_stops c.args.to.now c.put_line.new.to (front) ((comment_field (drop 1 c.args.text.now)) ++ (codes "}\n")) (comment_object c.args.number c.args.text.now) c.in_err-put_line.field-0.0 c.from_residual.result (sym (append_assoc front (comment_field (drop 1 c.args.text.now)) (codes "}\n"))) (subst (λ (t : List ℕ). (c.in_err-put_line.field-0.0 ≡ stop.Write) × IsPartlyWritten c.args.to.now c.put_line.new.to t) (c.bytes.ensures ∙ c.line_of_comment.ensures) c.in_err-put_line.ensures) c.from_residual.ensures.1

pub returns-in_err-put_comment_field : goal.returns-in_err-put_comment_field
returns-in_err-put_comment_field g c =
    let front = codes "{\"type\":\"comment\"" ++ number_field (codes "line") c.args.number in
    second_stops c.args.to.now c.put_line.new.to c.put_comment_field.new.to (front) (comment_field (drop 1 c.args.text.now)) (codes "}\n") (comment_object c.args.number c.args.text.now) c.in_err-put_comment_field.field-0.0 c.from_residual-in_err-put_comment_field.result (sym (append_assoc front (comment_field (drop 1 c.args.text.now)) (codes "}\n"))) (subst (IsWritten c.args.to.now c.put_line.new.to) (c.bytes.ensures ∙ c.line_of_comment.ensures) c.in_ok-put_line.ensures) (subst (λ (t : List ℕ). (c.in_err-put_comment_field.field-0.0 ≡ stop.Write) × IsPartlyWritten c.put_line.new.to c.put_comment_field.new.to t) (ap comment_field c.after_first.ensures) c.in_err-put_comment_field.ensures) c.from_residual-in_err-put_comment_field.ensures.1

pub returns : goal.returns
returns g c =
    let front = codes "{\"type\":\"comment\"" ++ number_field (codes "line") c.args.number in
    three_pieces c.args.to.now c.put_line.new.to c.put_comment_field.new.to c.put_line-2.new.to (front) (comment_field (drop 1 c.args.text.now)) (codes "}\n") (comment_object c.args.number c.args.text.now) c.put_line-2.result (sym (append_assoc front (comment_field (drop 1 c.args.text.now)) (codes "}\n"))) (subst (IsWritten c.args.to.now c.put_line.new.to) (c.bytes.ensures ∙ c.line_of_comment.ensures) c.in_ok-put_line.ensures) (subst (IsWritten c.put_line.new.to c.put_comment_field.new.to) (ap comment_field c.after_first.ensures) c.in_ok-put_comment_field.ensures) (c.put_line-2.ensures)
