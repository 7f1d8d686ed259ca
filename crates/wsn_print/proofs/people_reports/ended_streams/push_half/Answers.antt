use Rattle.std.proofs.Common.{ℕ, Option, List, ◌++◌, ◌∙◌, ap, codes}
use Rattle.wsn_rules.specs.ClosingHandshake.{other_endpoint}
use Rattle.wsn_print.specs.PeopleReport.{endpoint_word, explain_line, close_code, side_in, close_words}
use Rattle.wsn_print.proofs.Appended.{two, four}
use Rattle.wsn_print.proofs.people_reports.ended_streams.push_half.Goals as goal

pub returns : goal.returns
returns c =
    let old = c.args.lines.now in
    let role = c.args.role in
    let close = close_words role (close_code (side_in c.args.report.now role)) in
    let peer = endpoint_word (other_endpoint role) in
    two old c.push-3.new.self c.push_explain.new.lines
    (close ++ codes "; no answer of the " ++ peer ++ codes " is in the capture.\n") (explain_line (codes "half"))
    (four old c.push_close_words.new.lines c.push.new.self c.push-2.new.self c.push-3.new.self
    close (codes "; no answer of the ") peer (codes " is in the capture.\n")
    (c.push_close_words.ensures.text ∙ ap (λ (o : Option ℕ). old ++ close_words role o) c.code_of.ensures)
    c.push.ensures.text
    (c.push-2.ensures.text ∙ ap (λ (t : List ℕ). c.push.new.self ++ t) (c.endpoint_word.ensures.text ∙ ap endpoint_word c.other_endpoint.ensures))
    c.push-3.ensures.text)
    c.push_explain.ensures.text
