use Rattle.std.proofs.Common.{◌≡◌, [], ◌∷◌, ◌++◌, ℕ, List, Result, Err, length, take, sym, subst, arith, ap, ◌∙◌}
use Rattle.std.proofs.lemmas.Result.{err_from_is_err_and}
use Rattle.std.specs.Prelude.{IfErr}
use Rattle.std.proofs.Common.{length-take-le, length-append}
use Rattle.wsn_rules.specs.Limits.{Limits}
use Rattle.wsn_capture.specs.declared.capture_stop.CaptureStop.{CaptureStop}
use Rattle.wsn_capture.specs.LineSplitters.{HasSplit, HasPassedOn, IsStopWithin}
use Rattle.wsn_capture.proofs.ChunkPrefixes.{goes_on, ends_line, stops_at_line, room_for_line}
use Rattle.wsn_capture.proofs.line_splitter.LineSplitter.take_prefix.Goals as goal

pub returns-in_err-end_line-clause-stop : goal.returns-in_err-end_line-clause-stop
returns-in_err-end_line-clause-stop c =
    let out = err_from_is_err_and c.from_residual.result c.from_residual.ensures.1 in
    let is : c.from_residual.result ≡ Err c.in_err-end_line.field-0.0 = out.1 ∙ ap Err out.2 in
    let ends = c.take-count.ensures.ends c.if-ended.true in
    subst (λ (r : Result ℕ CaptureStop). IfErr r (λ stop. (limits : Limits) (came : List ℕ) → HasSplit limits c.args.self.now came → IsStopWithin limits came c.args.chunk.now stop)) (sym is)
    (λ limits came split. stops_at_line limits split.lines c.args.self.now.begun came split.passed c.take-count.new.self c.args.chunk.now c.take-count.result.0 ends c.in_err-end_line.field-0.0
    (c.in_err-end_line.ensures.stop limits split.lines split.accepted))

pub returns-in_ok-end_line-clause-split : goal.returns-in_ok-end_line-clause-split
returns-in_ok-end_line-clause-split c limits came split =
    let ends = c.take-count.ensures.ends c.if-ended.true in
    let lines = split.lines ++ c.take-count.new.self ∷ [] in
    let has = c.in_ok-end_line.ensures.taken limits split.lines split.accepted in
    record {
      lines = lines;
      passed = subst (λ (bs : List ℕ). HasPassedOn limits lines bs (came ++ take c.take-count.result.0 c.args.chunk.now)) (sym c.in_ok-end_line.ensures.begun)
          (ends_line limits split.lines c.args.self.now.begun came split.passed c.take-count.new.self c.args.chunk.now c.take-count.result.0 ends has.entries has.accepted.taken);
      accepted = has;
    }

pub returns-in_ok-end_line-clause-left : goal.returns-in_ok-end_line-clause-left
returns-in_ok-end_line-clause-left c =
    let ends = c.take-count.ensures.ends c.if-ended.true in
    let room = room_for_line c.args.self.now.begun c.take-count.new.self c.args.chunk.now c.take-count.result.0 c.take-count.ensures.within.1 ends in
    omega (arith, room, ap (λ (bs : List ℕ). length bs) c.in_ok-end_line.ensures.begun, c.in_ok-end_line.ensures.count, c.requires.few)

pub returns-else-ended-clause-split : goal.returns-else-ended-clause-split
returns-else-ended-clause-split c limits came split =
    record {
      lines = split.lines;
      passed = goes_on limits split.lines c.args.self.now.begun came split.passed c.take-count.new.self c.args.chunk.now c.take-count.result.0 (c.take-count.ensures.goes_on c.if-ended.false);
      accepted = split.accepted;
    }

pub returns-else-ended-clause-left : goal.returns-else-ended-clause-left
returns-else-ended-clause-left c =
    let goes = c.take-count.ensures.goes_on c.if-ended.false in
    let whole : length c.take-count.new.self ≡ length (c.args.self.now.begun ++ take c.take-count.result.0 c.args.chunk.now) = ap (λ (bs : List ℕ). length bs) goes.is in
    omega (arith, goes.short, whole, length-append c.args.self.now.begun (take c.take-count.result.0 c.args.chunk.now), length-take-le c.take-count.result.0 c.args.chunk.now c.take-count.ensures.within.1, c.requires.few)

pub returns-else-ended-clause-short : goal.returns-else-ended-clause-short
returns-else-ended-clause-short c = (c.take-count.ensures.goes_on c.if-ended.false).short
