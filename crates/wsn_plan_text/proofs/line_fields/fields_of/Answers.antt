use Rattle.std.proofs.Common.{ap, rules}
use Rattle.std.specs.Option.{option_copied}
use Rattle.wsn_plan_text.proofs.SplitLines.{fields_of_cut}
use Rattle.wsn_plan_text.proofs.line_fields.fields_of.Goals as goal

pub returns : goal.returns
returns c =
    fields_of_cut c.args.line.now c.split.result.0.now c.in_ok-rest.field-0.now (option_copied c.split.result.1) c.fields_after.result c.split.ensures
    (ap option_copied c.in_ok-rest.was) c.fields_after.ensures

pub returns-in_err-rest : goal.returns-in_err-rest
returns-in_err-rest c = search rules
