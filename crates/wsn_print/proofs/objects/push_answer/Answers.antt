use Rattle.std.proofs.Common.{◌++◌, ◌∙◌, ℕ, List, ap, codes}
use Rattle.wsn_print.specs.Json.{string_field}
use Rattle.wsn_print.proofs.objects.push_answer.Goals as goal

pub returns-clause-text : goal.returns-clause-text
returns-clause-text c =
    c.push_string_field.ensures.text ∙ ap (λ (t : List ℕ). t ++ string_field (codes "answer") c.args.word.now) c.push.ensures.text
