use Rattle.std.proofs.lemmas.Grind.{common_steps}
use Rattle.std.proofs.Common.{ℕ, [], ◌∷◌, ◌++◌, refl, sym, ap, ◌∙◌, eqb-true, arith}
use Rattle.wsn_color.proofs.PaintingLemmas.{paints_byte, paints_on}
use Rattle.wsn_color.proofs.brush.Brush.take_byte.Goals as goal

-- The word and its tone end, and the line feed follows.
pub returns-then-byte-eq10-clause-paints : goal.returns-then-byte-eq10-clause-paints
returns-then-byte-eq10-clause-paints c =
    paints_on _ _ _ [] _ _ _ (c.args.byte ∷ []) _ _ _ c.end_tones.ensures.paints
    (paints_byte _ _ _ _ _ _ c.args.byte c.requires.plain (λ lf. ap (λ it. it.is_toned) c.end_tones.ensures.line)
    (ap (λ it. it.is_toned) c.new-self.ensures ∙ sym (ap (λ it. it.is_toned) c.end_tones.ensures.line))
    (c.put.ensures ∙ ap (λ (byte : ℕ). c.end_tones.new.queue.items ++ byte ∷ []) (sym c.if-byte-eq10.true)) c.end_tones.ensures.empty refl)

pub returns-else-holds-clause-paints : goal.returns-else-holds-clause-paints
returns-else-holds-clause-paints c =
    paints_on _ _ _ [] _ _ _ (c.args.byte ∷ []) _ _ _ c.release.ensures.paints
    (paints_byte _ _ _ _ _ _ c.args.byte c.requires.plain (λ lf. absurd (c.if-byte-eq10.false (eqb-true _ _ lf))) c.pass.ensures.colored
    c.put-else-holds.ensures c.release.ensures.empty refl)

pub returns-then-byte-eq10-clause-text : goal.returns-then-byte-eq10-clause-text
returns-then-byte-eq10-clause-text c = grind (arith, common_steps)
