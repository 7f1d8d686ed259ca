use Rattle.std.proofs.Common.{refl}
use Rattle.wsn_plan_text.proofs.ReadNumbers.{number_is_plain, number_is_text, number_of_digits, no_number}
use Rattle.wsn_plan_text.proofs.reading_plans.number_of.Goals as goal

pub returns-then-not-is_plain : goal.returns-then-not-is_plain
returns-then-not-is_plain c = (
  refl,
  λ n spells.
      cc (c.is_plain.ensures.1 (number_is_plain c.args.field.now n spells), c.if-not-is_plain.true),
)

pub returns-in_default : goal.returns-in_default
returns-in_default c = (refl, λ n spells. c.in_default.ensures.cases.0 (number_is_text c.args.field.now n spells))

pub returns-in-Ok-parse : goal.returns-in-Ok-parse
returns-in-Ok-parse c =
    number_of_digits c.args.field.now c.in-Ok.digits.now c.in-Ok-parse.n c.in-Ok.ensures.cases.0 c.in-Ok-parse.ensures.value.0
    (c.is_plain.ensures.0 c.if-not-is_plain.false)

pub returns-in-Err : goal.returns-in-Err
returns-in-Err c = (
  refl,
  no_number c.args.field.now c.in-Ok.digits.now c.in-Ok.ensures.cases.0 c.in-Err.ensures.value.0 (c.is_plain.ensures.0 c.if-not-is_plain.false),
)
