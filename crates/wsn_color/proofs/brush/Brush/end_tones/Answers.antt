use Rattle.std.proofs.Common.{[], sym, ap, ◌∙◌}
use Rattle.wsn_color.proofs.PaintingLemmas.{paints_code, paints_on}
use Rattle.wsn_color.proofs.brush.Brush.end_tones.Goals as goal

pub returns-then-take_tone-clause-paints : goal.returns-then-take_tone-clause-paints
returns-then-take_tone-clause-paints c =
    paints_on _ _ _ [] _ _ _ [] _ _ _ c.release.ensures.paints
    (paints_code _ _ _ _ _ _ c.put.ensures c.plain_code.ensures.complete c.plain_code.ensures.empty (c.plain_code.ensures.ends _)
    (c.plain_code.ensures.plain _ ∙ sym (ap (λ it. it.is_toned) c.take_tone.ensures.after)))
