use Rattle.std.proofs.Common.{◌≡◌, ℕ, List, ◌++◌, ap, ◌∙◌, codes}
use Rattle.wsn_print.specs.Json.{string_field, number_field}
use Rattle.wsn_wire.specs.Refusal.{word_of, code_of}
use Rattle.wsn_print.proofs.Appended.{three}
use Rattle.wsn_print.proofs.objects.push_refusal.Goals as goal

pub returns-clause-text : goal.returns-clause-text
returns-clause-text g c =
    let r = c.args.refusal.now in
    let word : c.word.result.now ≡ word_of c.args.refusal.now.reason = cc in
    let code : c.from.result ≡ code_of c.args.refusal.now.reason = cc in
    three c.args.line.now c.push_number_field.new.line c.push_string_field.new.line c.push_number_field-2.new.line
    (number_field c.args.key.now r.offset) (string_field (codes "reason") (word_of r.reason)) (number_field (codes "code") (code_of r.reason))
    c.push_number_field.ensures.text
    (c.push_string_field.ensures.text ∙ ap (λ (w : List ℕ). c.push_number_field.new.line ++ string_field (codes "reason") w) word)
    (c.push_number_field-2.ensures.text ∙ ap (λ (n : ℕ). c.push_string_field.new.line ++ number_field (codes "code") n) code)
