use Rattle.std.proofs.Common.{ℕ, List, refl, sym, ap, ◌∙◌}
use Rattle.wsn_redact.specs.StandIns.{stood, due_after}
use Rattle.wsn_redact.specs.Dues.{due_of, bytes_in}
use Rattle.wsn_redact.proofs.Singles.{singles, singles_twice, stood-singles, due_after-singles, stood_ascii, due_after_ascii}
use Rattle.wsn_redact.proofs.stand_ins.Due.replace.Goals as goal

pub replace_longer-requires : goal.replace_longer-requires
replace_longer-requires c = ap singles c.replace_singles-ascii.ensures.written ∙ singles_twice c.args.text.now ∙ sym c.replace_singles-ascii.ensures.written

pub returns-then-not-ascii-clause-written : goal.returns-then-not-ascii-clause-written
returns-then-not-ascii-clause-written c =
    let due = due_of c.args.self.now in
    c.replace_longer.ensures.written ∙ ap (λ (bs : List ℕ). stood due bs) c.replace_singles-ascii.ensures.written ∙ stood-singles due c.args.text.now

pub returns-then-not-ascii-clause-due : goal.returns-then-not-ascii-clause-due
returns-then-not-ascii-clause-due c =
    let due = due_of c.args.self.now in
    c.replace_longer.ensures.due ∙ ap (λ (bs : List ℕ). due_after due bs) c.replace_singles-ascii.ensures.written ∙ due_after-singles due c.args.text.now

-- Nothing is due, and all is ASCII.
pub returns-else-self-ne0-clause-written : goal.returns-else-self-ne0-clause-written
returns-else-self-ne0-clause-written c =
    let text : List ℕ = c.args.text.now in
    c.replace_singles-ascii.ensures.written ∙ sym (ap (λ (n : ℕ). stood (bytes_in 4 n) text) c.if-self-ne0.false ∙ stood_ascii text (c.if-not-ascii.ensures.ascii refl))

pub returns-else-self-ne0-clause-due : goal.returns-else-self-ne0-clause-due
returns-else-self-ne0-clause-due c =
    let text : List ℕ = c.args.text.now in
    ap (λ (n : ℕ). bytes_in 4 n) c.if-self-ne0.false
    ∙ sym (ap (λ (n : ℕ). due_after (bytes_in 4 n) text) c.if-self-ne0.false ∙ due_after_ascii text (c.if-not-ascii.ensures.ascii refl))
