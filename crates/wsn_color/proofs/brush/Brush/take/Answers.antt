use Rattle.std.proofs.Common.{[], ◌∷◌, slice_index, take, rules}
use Rattle.std.proofs.lemmas.List.{take_more}
use Rattle.wsn_color.proofs.CodeLemmas.{no_escape-more}
use Rattle.wsn_color.proofs.PaintingLemmas.{paints_on}
use Rattle.wsn_color.proofs.TextLemmas.{continues_on}
use Rattle.wsn_color.proofs.brush.Brush.take.Goals as goal

-- One more byte is painted.
pub loop-taken-preserved : goal.loop-taken-preserved
loop-taken-preserved c = record {
  within = search rules;
  escape =
      rw (take_more c.args.bytes.now c.loop-taken.taken 0 c.loop-taken-test.true)
      (no_escape-more (take c.loop-taken.taken c.args.bytes.now) (slice_index c.args.bytes.now c.loop-taken.taken) c.loop-taken.invariant.escape c.if-byte-eq27.false);
  paints =
      rw (take_more c.args.bytes.now c.loop-taken.taken 0 c.loop-taken-test.true)
      (paints_on _ _ _ _ _ _ _ (slice_index c.args.bytes.now c.loop-taken.taken ∷ []) _ _ _ c.loop-taken.invariant.paints c.take_byte.ensures.paints);
  text =
      rw (take_more c.args.bytes.now c.loop-taken.taken 0 c.loop-taken-test.true)
      (continues_on _ _ _ (take c.loop-taken.taken c.args.bytes.now) _ _ _ (slice_index c.args.bytes.now c.loop-taken.taken ∷ []) _ _ _
      c.loop-taken.invariant.text c.take_byte.ensures.text);
}
