use Rattle.std.proofs.Common.{ap, rules}
use Rattle.std.specs.Option.{option_copied}
use Rattle.wsn_plan_text.proofs.SplitLines.{empty_text, empty_key, bad_form}
use Rattle.wsn_plan_text.proofs.line_fields.key_and_form.Goals as goal

pub returns-then-is_empty : goal.returns-then-is_empty
returns-then-is_empty c = λ key form are.
    empty_key c.args.text.now c.split.result.0.now key (option_copied c.split.result.1) form c.split.ensures
    (empty_text c.split.result.0.now c.is_empty.result c.is_empty.ensures c.if-is_empty.true) are

pub returns-then-not-is_field : goal.returns-then-not-is_field
returns-then-not-is_field c = λ key form are.
    bad_form c.args.text.now c.split.result.0.now key c.in-Some.form.now (option_copied c.split.result.1) form c.split.ensures
    (ap option_copied c.in-Some.is) (λ field. let holds = c.is_field.ensures.1 field in let fails = c.if-not-is_field.true in cc (holds, fails)) are

pub returns : goal.returns
returns c = search rules
