use Rattle.std.proofs.Common.{◌≡◌, ◌++◌, ℕ, List, Result, Err, length, take, sym, ap, ◌∙◌, subst, arith, length-drop}
use Rattle.std.proofs.lemmas.Result.{err_from_is_err_and}
use Rattle.std.specs.Prelude.{IfErr}
use Rattle.wsn_rules.specs.Limits.{Limits}
use Rattle.wsn_capture.specs.declared.capture_stop.CaptureStop.{CaptureStop}
use Rattle.wsn_capture.specs.LineSplitters.{HasSplit, IsStopWithin}
use Rattle.wsn_capture.proofs.ChunkPrefixes.{rest_is, taken_more, stop_in_rest}
use Rattle.wsn_capture.proofs.line_splitter.LineSplitter.take.Goals as goal

pub returns-in_err-taken-clause-stop : goal.returns-in_err-taken-clause-stop
returns-in_err-taken-clause-stop c =
    let out = err_from_is_err_and c.from_residual.result c.from_residual.ensures.1 in
    let is : c.from_residual.result ≡ Err c.in_err-taken.field-0.0 = out.1 ∙ ap Err out.2 in
    subst (λ (r : Result Unit CaptureStop). IfErr r (λ stop. (limits : Limits) (came : List ℕ) → HasSplit limits c.args.self.now came → IsStopWithin limits came c.args.chunk.now stop)) (sym is)
    (λ limits came split. stop_in_rest limits came c.args.chunk.now c.loop-taken.taken c.in_err-taken.field-0.0
    (c.in_err-taken.ensures.stop limits (came ++ take c.loop-taken.taken c.args.chunk.now) (c.loop-taken.invariant.split limits came split)))

pub loop-taken-preserved : goal.loop-taken-preserved
loop-taken-preserved c =
    let chunk = c.args.chunk.now in
    let at = c.loop-taken.taken in
    record {
      within = omega (arith, c.in_ok-taken.ensures.within.1, ap length (rest_is at chunk) ∙ length-drop at chunk, c.loop-taken-test.true);
      few = c.in_ok-taken.ensures.few;
      short = c.in_ok-taken.ensures.short;
      split = λ limits came split. subst (HasSplit limits c.take_prefix.new.self) (taken_more came chunk at c.in_ok-taken.field-0)
          (c.in_ok-taken.ensures.split limits (came ++ take at chunk) (c.loop-taken.invariant.split limits came split));
      left = omega (arith, c.loop-taken.invariant.left, c.in_ok-taken.ensures.left);
    }
