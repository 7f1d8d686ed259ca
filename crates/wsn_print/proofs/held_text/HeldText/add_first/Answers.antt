use Rattle.std.proofs.Common.{◌≡◌, ◌++◌, ◌∙◌, ℕ, List, get_or, ap, sym, arith}
use Rattle.std.proofs.lemmas.Grind.{common_steps}
use Rattle.std.specs.Prelude.{Some}
use Rattle.wsn_print.specs.EscapedText.{ascii_escape}
use Rattle.wsn_print.specs.Runs.{hidden_of}
use Rattle.wsn_print.proofs.RunTexts.{hidden_first}
use Rattle.wsn_print.proofs.held_text.HeldText.add_first.Goals as goal

pub returns-in-Some-clause-added : goal.returns-in-Some-clause-added
returns-in-Some-clause-added c =
    let text : List ℕ = c.args.text.now in
    let is : hidden_of (get_or text 0 0) (get_or text 1 0) (get_or text 2 0) (get_or text 3 0) ≡ Some (c.in-Some.number, c.in-Some.more) = sym c.hidden_at_start.ensures.found ∙ c.in-Some.is in (
      ascii_escape c.in-Some.number,
      c.put_escape-self-inside.ensures.written ∙ ap (λ (held : List ℕ). held ++ ascii_escape c.in-Some.number) c.self.view_is,
      hidden_first c.args.escapes text c.in-Some.number c.in-Some.more c.requires.some is,
    )

pub returns-in-None-clause-added : goal.returns-in-None-clause-added
returns-in-None-clause-added c = grind (arith, common_steps)

pub invariant_of-self : goal.invariant_of-self
invariant_of-self c = grind (arith, common_steps)

pub invariant_of-self-in-None : goal.invariant_of-self-in-None
invariant_of-self-in-None c = grind (arith, common_steps)
