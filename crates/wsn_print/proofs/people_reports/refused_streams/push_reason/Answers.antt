use Rattle.std.proofs.Common.{ℕ, List, ◌++◌, ◌∙◌, ap, codes}
use Rattle.wsn_wire.specs.Refusal.{word_of}
use Rattle.wsn_print.specs.Sentences.{reason_sentence}
use Rattle.wsn_print.proofs.Appended.{four}
use Rattle.wsn_print.proofs.people_reports.refused_streams.push_reason.Goals as goal

pub returns-clause-text : goal.returns-clause-text
returns-clause-text c =
    let old = c.args.lines.now in
    four old c.push.new.self c.push-2.new.self c.push-3.new.self c.push-4.new.self
    (word_of c.args.reason) (codes "\n(") (reason_sentence c.args.reason) (codes ").\n")
    (c.push.ensures.text ∙ ap (λ (t : List ℕ). old ++ t) c.word.ensures) c.push-2.ensures.text
    (c.push-3.ensures.text ∙ ap (λ (t : List ℕ). c.push-2.new.self ++ t) c.reason_sentence.ensures.text) c.push-4.ensures.text
