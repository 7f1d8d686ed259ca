use Rattle.std.proofs.Common.{◌++◌, ◌∙◌, ap, sym}
use Rattle.wsn_rules.specs.declared.closing_handshake.Side.{Side}
use Rattle.wsn_print.specs.Json.{field}
use Rattle.wsn_print.specs.Objects.{side_object}
use Rattle.wsn_print.proofs.objects.push_side.Goals as goal

pub returns-in-Cut-clause-text : goal.returns-in-Cut-clause-text
returns-in-Cut-clause-text c =
    c.push_field-in-Cut.ensures.text ∙ ap (λ (s : Side). c.args.line.now ++ field c.args.key.now (side_object s)) (sym c.in-Cut.is)

pub returns-in-Running-clause-text : goal.returns-in-Running-clause-text
returns-in-Running-clause-text c =
    c.push_field-in-Running.ensures.text ∙ ap (λ (s : Side). c.args.line.now ++ field c.args.key.now (side_object s)) (sym c.in-Running.is)
