use Rattle.wsn_plan_text.proofs.SplitLines.{field_test, some_text}
use Rattle.wsn_plan_text.proofs.line_fields.is_field.Goals as goal

pub returns-then-not-is_empty : goal.returns-then-not-is_empty
returns-then-not-is_empty c =
    field_test c.args.text.now c.split.result.0.now c.split.result.1 c.is_none.result c.split.ensures
    (some_text c.args.text.now c.is_empty.result c.is_empty.ensures c.if-not-is_empty.true) c.is_none.ensures
