use Rattle.std.proofs.Common.{ℕ, List, ◌++◌, ap, ◌∙◌, codes}
use Rattle.wsn_print.specs.Json.{field, string_field, number_or_null_field}
use Rattle.wsn_print.specs.Objects.{side_object, first_value, echo_value}
use Rattle.wsn_print.specs.ReportText.{outcome_word}
use Rattle.wsn_print.proofs.Appended.{nine}
use Rattle.wsn_print.proofs.objects.line_of_report.Goals as goal

pub returns : goal.returns
returns c =
    let r = c.args.report.now in
    nine c.new-line.result c.push.new.self c.push_side.new.line c.push_side-2.new.line c.push_field.new.line c.push_field-2.new.line c.push_code.new.line c.push_code-2.new.line c.push_string_field.new.line c.push-2.new.self
    (codes "{\"type\":\"report\"") (field (codes "client") (side_object r.client)) (field (codes "server") (side_object r.server))
    (field (codes "first") (first_value r.first)) (field (codes "echo") (echo_value r.echo))
    (number_or_null_field (codes "client_sees") r.client_sees) (number_or_null_field (codes "server_sees") r.server_sees)
    (string_field (codes "outcome") (outcome_word r.outcome)) (codes "}\n")
    c.new-line.ensures c.push.ensures.text c.push_side.ensures.text c.push_side-2.ensures.text
    (c.push_field.ensures.text ∙ ap (λ (v : List ℕ). c.push_side-2.new.line ++ field (codes "first") v) c.first_value.ensures.text)
    (c.push_field-2.ensures.text ∙ ap (λ (v : List ℕ). c.push_field.new.line ++ field (codes "echo") v) c.echo_value.ensures.text)
    c.push_code.ensures.text c.push_code-2.ensures.text
    (c.push_string_field.ensures.text ∙ ap (λ (w : List ℕ). c.push_code-2.new.line ++ string_field (codes "outcome") w) c.outcome_word.ensures.word)
    c.push-2.ensures.text
