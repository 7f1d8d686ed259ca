use Rattle.std.proofs.Common.{◌≤◌, ℕ, Result, Err, length, take, refl, sym, ◌∙◌, subst, rules, arith, length-take-le, ap}
use Rattle.std.proofs.lemmas.Result.{err_from_is_err_and}
use Rattle.wsn_io.specs.Transfer.{IsConsumed}
use Rattle.wsn_io.proofs.Received.{consumed_read}
use Rattle.wsn_capture.specs.declared.capture_report.CaptureReport.{CaptureReport}
use Rattle.wsn_capture.specs.declared.capture_stop.CaptureStop.{CaptureStop}
use Rattle.wsn_capture.specs.CaptureAnswers.{IsCaptureJudged}
use Rattle.wsn_capture.proofs.JudgedCaptures.{begins, stopped, ended, goes_on, faulty, failed_by, whole_answer}
use Rattle.wsn_capture.proofs.judging.read_capture.Goals as goal

pub returns-in_default : goal.returns-in_default
returns-in_default g c = record {
  judged = stopped c.args.limits c.args.input.now c.loop-count.input c.read.new.self c.loop-count.lines c.loop-count.invariant.read c.loop-count.invariant.few c.in_default.ensures.none.1 c.in_default.ensures.none.0;
  whole = search rules;
  failed = search rules;
}

pub returns-then-count-eq0-clause-judged : goal.returns-then-count-eq0-clause-judged
returns-then-count-eq0-clause-judged g c =
    let read = c.loop-count.invariant.read in
    let came = consumed_read c.loop-count.input c.read.new.self c.read.new.into c.in-Some.count c.in-Some.ensures.within c.in-Some.ensures.bytes c.in-Some.ensures.counted c.in-Some.ensures.readable in
    let nothing = subst (λ (n : ℕ). IsConsumed c.loop-count.input c.read.new.self (take n c.read.new.into)) c.if-count-eq0.true came in
    ended c.args.limits c.args.input.now c.loop-count.input c.read.new.self c.loop-count.lines read c.loop-count.invariant.few c.finish.result nothing
    (c.in-Some.ensures.end c.if-count-eq0.true) (c.in-Some.ensures.some ∙ c.loop-count.invariant.unfailed) (c.finish.ensures c.args.limits read.came read.split)

pub returns-then-count-eq0-clause-whole : goal.returns-then-count-eq0-clause-whole
returns-then-count-eq0-clause-whole g c all known unfailed =
    whole_answer c.args.limits c.args.input.now c.read.new.self c.finish.result all known unfailed (returns-then-count-eq0-clause-judged g c)

pub returns-then-count-eq0-clause-failed : goal.returns-then-count-eq0-clause-failed
returns-then-count-eq0-clause-failed g c = failed_by c.args.limits c.args.input.now c.read.new.self c.finish.result (returns-then-count-eq0-clause-judged g c)

pub loop-count-preserved : goal.loop-count-preserved
loop-count-preserved g c =
    let read = c.loop-count.invariant.read in
    record {
      read = goes_on c.args.limits c.args.input.now c.loop-count.input c.read.new.self c.loop-count.lines read c.loop-count.invariant.few (take c.in-Some.count c.read.new.into) c.take.new.self
          (consumed_read c.loop-count.input c.read.new.self c.read.new.into c.in-Some.count c.in-Some.ensures.within c.in-Some.ensures.bytes c.in-Some.ensures.counted c.in-Some.ensures.readable) (c.in_ok-take.ensures.split c.args.limits read.came read.split);
      unfailed = c.in-Some.ensures.some ∙ c.loop-count.invariant.unfailed;
      few = c.in_ok-take.ensures.few;
      short = c.in_ok-take.ensures.short;
      size = omega (arith, c.read.auto.into);
    }

pub returns-in_err-take-clause-judged : goal.returns-in_err-take-clause-judged
returns-in_err-take-clause-judged g c =
    let read = c.loop-count.invariant.read in
    let out = err_from_is_err_and c.from_residual.result c.from_residual.ensures.1 in
    let size : length (take c.in-Some.count c.read.new.into) ≤ 4096 = omega (arith, length-take-le c.in-Some.count c.read.new.into c.in-Some.ensures.within, c.in-Some.ensures.within, c.read.auto.into) in
    subst (λ (r : Result CaptureReport CaptureStop). IsCaptureJudged c.args.limits c.args.input.now c.read.new.self r) (sym (out.1 ∙ ap Err out.2))
    (faulty c.args.limits c.args.input.now c.loop-count.input c.read.new.self c.loop-count.lines read c.loop-count.invariant.few (take c.in-Some.count c.read.new.into) c.in_err-take.field-0.0
    (consumed_read c.loop-count.input c.read.new.self c.read.new.into c.in-Some.count c.in-Some.ensures.within c.in-Some.ensures.bytes c.in-Some.ensures.counted c.in-Some.ensures.readable) size (c.in-Some.ensures.some ∙ c.loop-count.invariant.unfailed) (c.in_err-take.ensures.stop c.args.limits read.came read.split))

pub returns-in_err-take-clause-whole : goal.returns-in_err-take-clause-whole
returns-in_err-take-clause-whole g c all known unfailed =
    whole_answer c.args.limits c.args.input.now c.read.new.self c.from_residual.result all known unfailed (returns-in_err-take-clause-judged g c)

pub returns-in_err-take-clause-failed : goal.returns-in_err-take-clause-failed
returns-in_err-take-clause-failed g c = failed_by c.args.limits c.args.input.now c.read.new.self c.from_residual.result (returns-in_err-take-clause-judged g c)

pub loop-count-init : goal.loop-count-init
loop-count-init g c = record {
  read = begins c.args.limits c.args.input.now c.new-lines.result c.new-lines.ensures.split;
  unfailed = c.requires;
  few = c.new-lines.ensures.few;
  short = c.new-lines.ensures.short;
  size = refl;
}

pub slice_bounds-read-end : goal.slice_bounds-read-end
slice_bounds-read-end g c = search rules

pub read-requires : goal.read-requires
read-requires g c = search rules

pub finish-requires : goal.finish-requires
finish-requires g c = search rules

pub slice_bounds-chunk-end : goal.slice_bounds-chunk-end
slice_bounds-chunk-end g c = search rules

pub slice_bounds-take-end : goal.slice_bounds-take-end
slice_bounds-take-end g c = search rules

pub take-requires : goal.take-requires
take-requires g c = record { few = search rules; short = search rules }

pub loop-count-smaller : goal.loop-count-smaller
loop-count-smaller g c = search rules
