use Rattle.std.proofs.Common.{ℕ, List, ◌++◌, ap, ◌∙◌, codes}
use Rattle.wsn_print.specs.Json.{field}
use Rattle.wsn_print.specs.Objects.{refusal_fields}
use Rattle.wsn_print.proofs.Appended.{three, value_of_three}
use Rattle.wsn_print.proofs.objects.push_refused_side.Goals as goal

pub returns-clause-text : goal.returns-clause-text
returns-clause-text c =
    three c.args.line.now c.push_field.new.line c.push_refusal.new.line c.push.new.self
    (field c.args.key.now (codes "{\"state\":\"refused\"")) (refusal_fields (codes "offset") c.args.refusal.now) (codes "}")
    c.push_field.ensures.text c.push_refusal.ensures.text c.push.ensures.text
    ∙ ap (λ (t : List ℕ). c.args.line.now ++ t) (value_of_three c.args.key.now (codes "{\"state\":\"refused\"") (refusal_fields (codes "offset") c.args.refusal.now) (codes "}"))
