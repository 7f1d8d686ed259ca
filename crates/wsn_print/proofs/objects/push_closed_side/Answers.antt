use Rattle.std.proofs.Common.{ℕ, List, ◌++◌, ap, ◌∙◌, codes}
use Rattle.wsn_print.specs.Json.{field, number_or_null_field}
use Rattle.wsn_print.proofs.Appended.{three, value_of_three}
use Rattle.wsn_print.proofs.objects.push_closed_side.Goals as goal

pub returns-clause-text : goal.returns-clause-text
returns-clause-text c =
    three c.args.line.now c.push_field.new.line c.push_code.new.line c.push.new.self
    (field c.args.key.now (codes "{\"state\":\"closed\"")) (number_or_null_field (codes "code") c.args.code) (codes "}")
    c.push_field.ensures.text c.push_code.ensures.text c.push.ensures.text
    ∙ ap (λ (t : List ℕ). c.args.line.now ++ t) (value_of_three c.args.key.now (codes "{\"state\":\"closed\"") (number_or_null_field (codes "code") c.args.code) (codes "}"))
