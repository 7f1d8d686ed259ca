use Rattle.std.proofs.Common.{◌++◌, List, ℕ, [], refl, ap, ◌∙◌}
use Rattle.wsn_color.proofs.PaintingLemmas.{paints_held_word, paints_on, paints_same, paints_word}
use Rattle.wsn_color.proofs.brush.Brush.release.Goals as goal
use Rattle.wsn_color.proofs.brush.Brush.release.Goals.{in-None, in-Some}

-- The word, in its tone.
pub returns-clause-paints : goal.returns-clause-paints
returns-clause-paints c = elim c.match-decide.branch [
  | in-None w ↦
      paints_on _ _ _ [] _ _ _ [] _ _ _
      (paints_word _ _ _ _ _ c.args.self.now.plain (w.put.ensures ∙ ap (λ (text : List ℕ). c.args.queue.now.items ++ text) w.as_slice-in-None.ensures.value) c.clear.ensures)
      (paints_same _ _ _ _ _ _ w.in-None.ensures.colored (ap (λ it. it.items) w.queue-is) refl)
  | in-Some w ↦
      paints_on _ _ _ [] _ _ _ [] _ _ _
      (paints_held_word _ _ _ _ _ _ _ w.as_slice-in-Some.ensures.value (w.put_toned.ensures.paints c.args.self.now.line.is_toned))
      (paints_same _ _ _ _ _ _ w.in-Some.ensures.colored (ap (λ it. it.items) w.queue-is) c.clear.ensures)
]
