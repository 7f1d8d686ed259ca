use Rattle.std.proofs.Common.{ℕ, Option, List, ◌++◌, ◌∙◌, ap, codes}
use Rattle.wsn_wire.specs.declared.endpoint.Role.{Role}
use Rattle.wsn_rules.specs.ClosingHandshake.{other_endpoint}
use Rattle.wsn_print.specs.PeopleReport.{endpoint_word, with_code, close_code, side_in, answer_words}
use Rattle.wsn_print.proofs.Appended.{three, four, six}
use Rattle.wsn_print.proofs.people_reports.ended_streams.push_closed.Goals as goal

pub returns : goal.returns
returns c =
    let old = c.args.lines.now in
    let report = c.args.report.now in
    let other = other_endpoint c.args.role in
    let side = endpoint_word c.args.role in
    let code = with_code (close_code (side_in report c.args.role)) in
    let peer = endpoint_word other in
    let answer = answer_words report.echo (close_code (side_in report other)) in
    let first = codes "The " ++ side ++ codes " closed first, " ++ code ++ codes ", and the " ++ peer in
    three old c.push-7.new.self c.push-8.new.self c.push-9.new.self
    (first ++ codes " answered " ++ answer ++ codes ".\n") c.args.sentence.now (codes "\n")
    (four old c.push-5.new.self c.push-6.new.self c.push_answer.new.lines c.push-7.new.self first (codes " answered ") answer (codes ".\n")
    (six old c.push.new.self c.push-2.new.self c.push-3.new.self c.push_code.new.lines c.push-4.new.self c.push-5.new.self
    (codes "The ") side (codes " closed first, ") code (codes ", and the ") peer
    c.push.ensures.text (c.push-2.ensures.text ∙ ap (λ (t : List ℕ). c.push.new.self ++ t) c.endpoint_word.ensures.text)
    c.push-3.ensures.text (c.push_code.ensures.text ∙ ap (λ (o : Option ℕ). c.push-3.new.self ++ with_code o) c.code_of.ensures)
    c.push-4.ensures.text
    (c.push-5.ensures.text ∙ ap (λ (t : List ℕ). c.push-4.new.self ++ t) (c.endpoint_word-2.ensures.text ∙ ap endpoint_word c.other_endpoint-other.ensures)))
    c.push-6.ensures.text
    (c.push_answer.ensures.text ∙ ap (λ (o : Option ℕ). c.push-6.new.self ++ answer_words report.echo o)
    (c.code_of-2.ensures ∙ ap (λ (r : Role). close_code (side_in report r)) c.other_endpoint-other.ensures))
    c.push-7.ensures.text)
    c.push-8.ensures.text c.push-9.ensures.text
