use Rattle.std.proofs.Common.{◌++◌, ◌∙◌, ℕ, Option, ap, sym, arith}
use Rattle.std.proofs.lemmas.Grind.{common_steps}
use Rattle.wsn_print.specs.PeopleReport.{with_code}
use Rattle.wsn_print.proofs.people_reports.words.push_code.Goals as goal

pub returns-in-Some-clause-text : goal.returns-in-Some-clause-text
returns-in-Some-clause-text c = grind (arith, common_steps)

pub returns-in-None-clause-text : goal.returns-in-None-clause-text
returns-in-None-clause-text c = c.push-in-None.ensures.text ∙ ap (λ (code : Option ℕ). c.args.lines.now ++ with_code code) (sym c.in-None.is)
