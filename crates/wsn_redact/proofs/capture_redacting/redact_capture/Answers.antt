use Rattle.std.proofs.Common.{◌≡◌, ◌≤◌, ℕ, List, [], Result, Err, length, take, refl, sym, ap, ◌∙◌, subst, rules, arith, length-take-le}
use Rattle.std.proofs.lemmas.Result.{err_from_is_err_and}
use Rattle.wsn_io.specs.Transfer.{IsConsumed}
use Rattle.wsn_io.proofs.Received.{consumed_read}
use Rattle.wsn_redact.specs.declared.capture_redacting.RedactStop.{RedactStop}
use Rattle.wsn_redact.specs.RedactingCaptures.{IsRedactedCaptureInput}
use Rattle.wsn_redact.specs.PassedRedactions.{HasWritten, IsWritingLines}
use Rattle.wsn_capture.proofs.AcceptedLines.{accepted_count}
use Rattle.wsn_redact.proofs.RedactedCaptureInputs.{begins, stopped, finished, goes_on, stops_here}
use Rattle.wsn_redact.proofs.capture_redacting.redact_capture.Goals as goal

pub loop-count-init : goal.loop-count-init
loop-count-init g c = record {
  read = begins c.args.limits c.args.input.now c.args.output.now c.new-redactor.result c.new-lines.result c.new-lines.ensures
      (c.new-redactor.ensures) c.requires.writable;
  unfailed = c.requires.readable;
  writable = c.requires.writable;
  few = let count = accepted_count c.args.limits c.new-redactor.result.lines [] [] c.new-redactor.ensures.accepted in omega (arith, count);
  short = let empty = ap (λ (bs : List ℕ). length bs) c.new-lines.ensures in omega (arith, empty);
  size = refl;
}

pub slice_bounds-read-end : goal.slice_bounds-read-end
slice_bounds-read-end g c = search rules

pub read-requires : goal.read-requires
read-requires g c = search rules

pub returns-in_default : goal.returns-in_default
returns-in_default g c =
    let inv = c.loop-count.invariant in
    stopped c.args.limits c.args.input.now c.loop-count.input c.read.new.self c.args.output.now c.loop-count.redactor c.loop-count.lines c.loop-count.output
    inv.read inv.few c.in_default.ensures.none.1 c.in_default.ensures.none.0

pub end-requires-clause-writing : goal.end-requires-clause-writing
end-requires-clause-writing g c =
    let read = c.loop-count.invariant.read in
    subst (λ (bs : List ℕ). IsWritingLines c.loop-count.redactor bs c.loop-count.output) (sym c.line.ensures)
    (record { limits = c.args.limits; first = c.args.output.now; came = read.came; has_written = read.has_written })

pub end-requires-clause-few : goal.end-requires-clause-few
end-requires-clause-few g c = c.loop-count.invariant.few

pub end-requires-clause-writable : goal.end-requires-clause-writable
end-requires-clause-writable g c = c.loop-count.invariant.writable

pub returns-then-count-eq0 : goal.returns-then-count-eq0
returns-then-count-eq0 g c =
    let inv = c.loop-count.invariant in
    let came = consumed_read c.loop-count.input c.read.new.self c.read.new.into c.in-Some.count c.in-Some.ensures.within c.in-Some.ensures.bytes c.in-Some.ensures.counted c.in-Some.ensures.readable in
    let nothing = subst (λ (n : ℕ). IsConsumed c.loop-count.input c.read.new.self (take n c.read.new.into)) c.if-count-eq0.true came in
    let written = subst (λ (bs : List ℕ). HasWritten c.args.limits c.args.output.now c.loop-count.redactor bs c.loop-count.output inv.read.came) (sym c.line.ensures) inv.read.has_written in
    finished c.args.limits c.args.input.now c.loop-count.input c.read.new.self c.args.output.now c.loop-count.redactor c.loop-count.lines c.loop-count.output
    inv.read inv.few c.end.result c.end.new.output nothing (c.in-Some.ensures.end c.if-count-eq0.true) (c.in-Some.ensures.some ∙ inv.unfailed)
    (c.end.ensures c.args.limits c.args.output.now inv.read.came written)

pub slice_bounds-chunk-end : goal.slice_bounds-chunk-end
slice_bounds-chunk-end g c = search rules

pub slice_bounds-redact_lines-end : goal.slice_bounds-redact_lines-end
slice_bounds-redact_lines-end g c = search rules

pub redact_lines-requires-clause-writing : goal.redact_lines-requires-clause-writing
redact_lines-requires-clause-writing g c =
    let read = c.loop-count.invariant.read in
    record { limits = c.args.limits; first = c.args.output.now; came = read.came; has_written = read.has_written }

pub redact_lines-requires-clause-few : goal.redact_lines-requires-clause-few
redact_lines-requires-clause-few g c = c.loop-count.invariant.few

pub redact_lines-requires-clause-short : goal.redact_lines-requires-clause-short
redact_lines-requires-clause-short g c = c.loop-count.invariant.short

pub redact_lines-requires-clause-writable : goal.redact_lines-requires-clause-writable
redact_lines-requires-clause-writable g c = c.loop-count.invariant.writable

pub loop-count-smaller : goal.loop-count-smaller
loop-count-smaller g c = search rules

pub loop-count-preserved : goal.loop-count-preserved
loop-count-preserved g c =
    let inv = c.loop-count.invariant in
    record {
      read = goes_on c.args.limits c.args.input.now c.loop-count.input c.read.new.self c.args.output.now c.loop-count.redactor c.loop-count.lines c.loop-count.output
          inv.read inv.few (take c.in-Some.count c.read.new.into) c.redact_lines.new.redactor c.redact_lines.new.lines c.redact_lines.new.output
          (consumed_read c.loop-count.input c.read.new.self c.read.new.into c.in-Some.count c.in-Some.ensures.within c.in-Some.ensures.bytes c.in-Some.ensures.counted c.in-Some.ensures.readable)
          (c.in_ok-redact_lines.ensures.written c.args.limits c.args.output.now inv.read.came inv.read.has_written);
      unfailed = c.in-Some.ensures.some ∙ inv.unfailed;
      writable = c.in_ok-redact_lines.ensures.writable;
      few = c.in_ok-redact_lines.ensures.few;
      short = c.in_ok-redact_lines.ensures.short;
      size = omega (arith, c.read.auto.into);
    }

pub returns-in_err-redact_lines : goal.returns-in_err-redact_lines
returns-in_err-redact_lines g c =
    let inv = c.loop-count.invariant in
    let out = err_from_is_err_and c.from_residual.result c.from_residual.ensures.1 in
    let is : c.from_residual.result ≡ Err c.in_err-redact_lines.field-0.0 = out.1 ∙ ap Err out.2 in
    let size : length (take c.in-Some.count c.read.new.into) ≤ 4096 = omega (arith, length-take-le c.in-Some.count c.read.new.into c.in-Some.ensures.within, c.in-Some.ensures.within, c.read.auto.into) in
    subst (λ (r : Result (Unit {0}) RedactStop). IsRedactedCaptureInput c.args.limits c.args.input.now c.read.new.self c.args.output.now c.redact_lines.new.output r) (sym is)
    (stops_here c.args.limits c.args.input.now c.loop-count.input c.read.new.self c.args.output.now c.loop-count.redactor c.loop-count.lines c.loop-count.output
    inv.read inv.few (take c.in-Some.count c.read.new.into) c.in_err-redact_lines.field-0.0 c.redact_lines.new.output
    (consumed_read c.loop-count.input c.read.new.self c.read.new.into c.in-Some.count c.in-Some.ensures.within c.in-Some.ensures.bytes c.in-Some.ensures.counted c.in-Some.ensures.readable) size (c.in-Some.ensures.some ∙ inv.unfailed)
    (c.in_err-redact_lines.ensures.stop c.args.limits c.args.output.now inv.read.came inv.read.has_written))
