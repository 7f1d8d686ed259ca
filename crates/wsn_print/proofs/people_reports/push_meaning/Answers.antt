use Rattle.std.proofs.lemmas.Grind.{common_steps}
use Rattle.std.proofs.Common.{◌++◌, ◌∙◌, ap, sym, codes, arith}
use Rattle.wsn_rules.specs.declared.closing_handshake.Outcome.{Outcome}
use Rattle.wsn_print.specs.Sentences.{open_sentence}
use Rattle.wsn_print.specs.PeopleReport.{explain_line, meaning_lines}
use Rattle.wsn_print.proofs.Appended.{three}
use Rattle.wsn_print.proofs.people_reports.push_meaning.Goals as goal

pub returns-in-Live : goal.returns-in-Live
returns-in-Live c =
    three c.args.lines.now c.push.new.self c.push-in-Live.new.self c.push_explain.new.lines
    open_sentence (codes "\n") (explain_line (codes "open"))
    c.push.ensures.text c.push-in-Live.ensures.text c.push_explain.ensures.text
    ∙ ap (λ (o : Outcome). c.args.lines.now ++ meaning_lines o c.args.report.now) (sym c.in-Live.is)

pub returns-in-Complete : goal.returns-in-Complete
returns-in-Complete c = grind (arith, common_steps)

pub returns-in-Clean : goal.returns-in-Clean
returns-in-Clean c = grind (arith, common_steps)
