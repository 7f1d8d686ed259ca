use Rattle.std.proofs.Common.{◌≡◌, ◌++◌, ◌∙◌, ℕ, Option, ap, sym, codes, arith}
use Rattle.std.proofs.lemmas.Grind.{common_steps}
use Rattle.wsn_print.specs.Json.{field, number_or_null}
use Rattle.wsn_print.specs.Objects.{close_value}
use Rattle.wsn_print.proofs.Appended.{three}
use Rattle.wsn_print.proofs.objects.push_close.Goals as goal

pub returns-in-Some-clause-text : goal.returns-in-Some-clause-text
returns-in-Some-clause-text g c =
    let code : c.map.result ≡ c.in-Some.code = grind (arith, common_steps) in
    three c.args.line.now c.push.new.self c.push_number_or_null.new.line c.push-in-Some.new.self
    (codes ",\"close\":{\"code\":") (number_or_null c.in-Some.code) (codes "}")
    c.push.ensures.text (c.push_number_or_null.ensures.text ∙ ap (λ (n : Option ℕ). c.push.new.self ++ number_or_null n) code) c.push-in-Some.ensures.text
    ∙ ap (λ (close : Option (Option ℕ)). c.args.line.now ++ field (codes "close") (close_value close)) (sym c.in-Some.is)
