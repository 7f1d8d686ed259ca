use Rattle.std.proofs.Common.{ℕ, List, refl, sym, ap, ◌∙◌}
use Rattle.wsn_redact.specs.StandIns.{stood, due_after}
use Rattle.wsn_redact.specs.Dues.{bytes_in}
use Rattle.wsn_redact.proofs.Singles.{stood_ascii, due_after_ascii}
use Rattle.wsn_redact.proofs.stand_ins.Due.replace_some.Goals as goal

-- Nothing is due, and all is ASCII.
pub returns-else-not-is_ascii_some-clause-written : goal.returns-else-not-is_ascii_some-clause-written
returns-else-not-is_ascii_some-clause-written c =
    let text : List ℕ = c.args.text.now in
    sym (ap (λ (n : ℕ). stood (bytes_in 4 n) text) c.if-self-ne0.false ∙ stood_ascii text (c.if-not-is_ascii_some.ensures refl) ∙ c.requires)

pub returns-else-not-is_ascii_some-clause-due : goal.returns-else-not-is_ascii_some-clause-due
returns-else-not-is_ascii_some-clause-due c =
    let text : List ℕ = c.args.text.now in
    ap (λ (n : ℕ). bytes_in 4 n) c.if-self-ne0.false
    ∙ sym (ap (λ (n : ℕ). due_after (bytes_in 4 n) text) c.if-self-ne0.false ∙ due_after_ascii text (c.if-not-is_ascii_some.ensures refl))
