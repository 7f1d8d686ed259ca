use Rattle.std.proofs.Common.{ℕ, List, ◌++◌, ◌∙◌, ap, codes, decimal}
use Rattle.wsn_rules.specs.ClosingHandshake.{other_endpoint}
use Rattle.wsn_print.specs.PeopleReport.{endpoint_word, refusal_opening}
use Rattle.wsn_print.proofs.Appended.{two, six}
use Rattle.wsn_print.proofs.people_reports.refused_streams.push_refused_byte.Goals as goal

pub returns-clause-text : goal.returns-clause-text
returns-clause-text c =
    let old = c.args.lines.now in
    let opening = refusal_opening c.args.refusal.now.reason in
    let peer = endpoint_word (other_endpoint c.args.role) in
    let offset = decimal c.args.refusal.now.offset in
    let side = endpoint_word c.args.role in
    two old c.push-5.new.self c.push-6.new.self
    (opening ++ peer ++ codes " must refuse byte " ++ offset ++ codes " of what the " ++ side) (codes " sent: ")
    (six old c.push.new.self c.push-2.new.self c.push-3.new.self c.push_number.new.self c.push-4.new.self c.push-5.new.self
    opening peer (codes " must refuse byte ") offset (codes " of what the ") side
    (c.push.ensures.text ∙ ap (λ (t : List ℕ). old ++ t) c.refusal_opening.ensures.text)
    (c.push-2.ensures.text ∙ ap (λ (t : List ℕ). c.push.new.self ++ t) (c.endpoint_word.ensures.text ∙ ap endpoint_word c.other_endpoint.ensures))
    c.push-3.ensures.text c.push_number.ensures.text c.push-4.ensures.text
    (c.push-5.ensures.text ∙ ap (λ (t : List ℕ). c.push-4.new.self ++ t) c.endpoint_word-2.ensures.text))
    c.push-6.ensures.text
