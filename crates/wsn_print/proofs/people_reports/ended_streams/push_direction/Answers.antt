use Rattle.std.proofs.Common.{List, ℕ, ◌++◌, ◌∙◌, ap, codes}
use Rattle.wsn_print.specs.PeopleReport.{endpoint_word}
use Rattle.wsn_print.proofs.Appended.{two, four}
use Rattle.wsn_print.proofs.people_reports.ended_streams.push_direction.Goals as goal

pub returns-clause-text : goal.returns-clause-text
returns-clause-text c =
    let old = c.args.lines.now in
    let side = endpoint_word c.args.role in
    two old c.push-4.new.self c.push-5.new.self (codes "The " ++ side ++ codes "'s direction " ++ c.args.words.now) (codes ", without a Close.\n")
    (four old c.push.new.self c.push-2.new.self c.push-3.new.self c.push-4.new.self (codes "The ") side (codes "'s direction ") c.args.words.now
    c.push.ensures.text (c.push-2.ensures.text ∙ ap (λ (t : List ℕ). c.push.new.self ++ t) c.endpoint_word.ensures.text)
    c.push-3.ensures.text c.push-4.ensures.text)
    c.push-5.ensures.text
