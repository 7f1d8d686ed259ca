use Rattle.std.proofs.Common.{[], refl, sym, ◌∙◌}
use Rattle.wsn_color.proofs.PaintingLemmas.{paints_code, paints_on, paints_word}
use Rattle.wsn_color.proofs.brush.put_toned.Goals as goal

-- The tone's code, and the word.
pub returns-then-is_of_line-clause-paints : goal.returns-then-is_of_line-clause-paints
returns-then-is_of_line-clause-paints c = λ colored.
    paints_on _ _ _ [] _ _ _ [] _ _ _
    (paints_code _ _ _ _ _ _ c.put.ensures c.code.ensures.complete c.code.ensures.empty (c.code.ensures.ends colored)
    (c.code.ensures.colored colored ∙ sym c.if-is_of_line.true ∙ c.is_of_line.ensures))
    (paints_word _ _ _ _ _ c.requires.plain c.put-2.ensures refl)

-- And the code that ends it.
pub returns-clause-paints : goal.returns-clause-paints
returns-clause-paints c = λ colored.
    paints_on _ _ _ [] _ _ _ [] _ _ _
    (paints_on _ _ _ [] _ _ _ [] _ _ _
    (paints_code _ _ _ _ _ _ c.put.ensures c.code.ensures.complete c.code.ensures.empty (c.code.ensures.ends colored) (c.code.ensures.colored colored))
    (paints_word _ _ _ _ _ c.requires.plain c.put-2.ensures refl))
    (paints_code _ _ _ _ _ _ c.put-3.ensures c.plain_code.ensures.complete c.plain_code.ensures.empty (c.plain_code.ensures.ends _)
    (c.plain_code.ensures.plain _ ∙ sym c.if-is_of_line.false ∙ c.is_of_line.ensures))
