use Rattle.std.proofs.Common.{ℕ, List, ◌++◌, ◌∙◌, ap, codes}
use Rattle.wsn_print.specs.PeopleReport.{endpoint_word, with_code}
use Rattle.wsn_print.proofs.Appended.{four}
use Rattle.wsn_print.proofs.people_reports.ended_streams.push_close_words.Goals as goal

pub returns-clause-text : goal.returns-clause-text
returns-clause-text c =
    four c.args.lines.now c.push.new.self c.push-2.new.self c.push-3.new.self c.push_code.new.lines
    (codes "The ") (endpoint_word c.args.role) (codes " sent a Close ") (with_code c.args.code)
    c.push.ensures.text (c.push-2.ensures.text ∙ ap (λ (t : List ℕ). c.push.new.self ++ t) c.endpoint_word.ensures.text)
    c.push-3.ensures.text c.push_code.ensures.text
