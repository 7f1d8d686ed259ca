use Rattle.std.proofs.Common.{◌≡◌, ◌≤◌, ℕ, List, [], Result, Err, length, take, refl, sym, ap, ◌∙◌, subst, rules, arith, length-take-le}
use Rattle.std.proofs.lemmas.Result.{err_from_is_err_and}
use Rattle.wsn_io.specs.Transfer.{IsConsumed}
use Rattle.wsn_io.proofs.Received.{consumed_read}
use Rattle.wsn_capture.specs.declared.capture_report.CaptureReport.{CaptureReport}
use Rattle.wsn_show.specs.declared.showing.ShowStop.{ShowStop}
use Rattle.wsn_show.specs.Showing.{IsShown}
use Rattle.wsn_show.specs.PassedLines.{HasPrinted, IsPrinting}
use Rattle.wsn_capture.proofs.AcceptedLines.{accepted_count}
use Rattle.wsn_show.proofs.ShownInputs.{begins, stopped, ended, goes_on, stops_here}
use Rattle.wsn_show.proofs.showing.show.Goals as goal

pub new-capture-requires-clause-client : goal.new-capture-requires-clause-client
new-capture-requires-clause-client g c = c.requires.client

pub new-capture-requires-clause-server : goal.new-capture-requires-clause-server
new-capture-requires-clause-server g c = c.requires.server

pub loop-count-init : goal.loop-count-init
loop-count-init g c = record {
  read = begins c.args.limits c.args.style c.args.input.now c.args.output.now c.new-capture.result c.new-lines.result c.new-lines.ensures
      (c.new-capture.ensures) c.requires.writable;
  unfailed = c.requires.readable;
  writable = c.requires.writable;
  few = let count = accepted_count c.args.limits c.new-capture.result.lines [] [] c.new-capture.ensures.accepted in omega (arith, count);
  short = let empty = ap (λ (bs : List ℕ). length bs) c.new-lines.ensures in omega (arith, empty);
  size = refl;
}

pub slice_bounds-read-end : goal.slice_bounds-read-end
slice_bounds-read-end g c = search rules

pub read-requires : goal.read-requires
read-requires g c = search rules

pub returns-in_default : goal.returns-in_default
returns-in_default g c =
    let inv = c.loop-count.invariant in
    stopped c.args.limits c.args.style c.args.input.now c.loop-count.input c.read.new.self c.args.output.now c.loop-count.capture c.loop-count.lines c.loop-count.output
    inv.read inv.few c.in_default.ensures.none.1 c.in_default.ensures.none.0

pub end-requires-clause-printing : goal.end-requires-clause-printing
end-requires-clause-printing g c =
    let read = c.loop-count.invariant.read in
    subst (λ (bs : List ℕ). IsPrinting c.loop-count.capture bs c.loop-count.output) (sym c.line.ensures)
    (record { limits = c.args.limits; style = c.args.style; first = c.args.output.now; came = read.came; has_printed = read.printed })

pub end-requires-clause-few : goal.end-requires-clause-few
end-requires-clause-few g c = c.loop-count.invariant.few

pub end-requires-clause-writable : goal.end-requires-clause-writable
end-requires-clause-writable g c = c.loop-count.invariant.writable

pub returns-then-count-eq0 : goal.returns-then-count-eq0
returns-then-count-eq0 g c =
    let inv = c.loop-count.invariant in
    let came = consumed_read c.loop-count.input c.read.new.self c.read.new.into c.in-Some.count c.in-Some.ensures.within c.in-Some.ensures.bytes c.in-Some.ensures.counted c.in-Some.ensures.readable in
    let nothing = subst (λ (n : ℕ). IsConsumed c.loop-count.input c.read.new.self (take n c.read.new.into)) c.if-count-eq0.true came in
    let printed = subst (λ (bs : List ℕ). HasPrinted c.args.limits c.args.style c.args.output.now c.loop-count.capture bs c.loop-count.output inv.read.came) (sym c.line.ensures) inv.read.printed in
    ended c.args.limits c.args.style c.args.input.now c.loop-count.input c.read.new.self c.args.output.now c.loop-count.capture c.loop-count.lines c.loop-count.output
    inv.read inv.few c.end.result c.end.new.output nothing (c.in-Some.ensures.end c.if-count-eq0.true) (c.in-Some.ensures.some ∙ inv.unfailed)
    (c.end.ensures c.args.limits c.args.style c.args.output.now inv.read.came printed)

pub slice_bounds-chunk-end : goal.slice_bounds-chunk-end
slice_bounds-chunk-end g c = search rules

pub slice_bounds-show_lines-end : goal.slice_bounds-show_lines-end
slice_bounds-show_lines-end g c = search rules

pub show_lines-requires-clause-printing : goal.show_lines-requires-clause-printing
show_lines-requires-clause-printing g c =
    let read = c.loop-count.invariant.read in
    record { limits = c.args.limits; style = c.args.style; first = c.args.output.now; came = read.came; has_printed = read.printed }

pub show_lines-requires-clause-few : goal.show_lines-requires-clause-few
show_lines-requires-clause-few g c = c.loop-count.invariant.few

pub show_lines-requires-clause-short : goal.show_lines-requires-clause-short
show_lines-requires-clause-short g c = c.loop-count.invariant.short

pub show_lines-requires-clause-writable : goal.show_lines-requires-clause-writable
show_lines-requires-clause-writable g c = c.loop-count.invariant.writable

pub loop-count-smaller : goal.loop-count-smaller
loop-count-smaller g c = search rules

pub loop-count-preserved : goal.loop-count-preserved
loop-count-preserved g c =
    let inv = c.loop-count.invariant in
    record {
      read = goes_on c.args.limits c.args.style c.args.input.now c.loop-count.input c.read.new.self c.args.output.now c.loop-count.capture c.loop-count.lines c.loop-count.output
          inv.read inv.few (take c.in-Some.count c.read.new.into) c.show_lines.new.view c.show_lines.new.lines c.show_lines.new.output
          (consumed_read c.loop-count.input c.read.new.self c.read.new.into c.in-Some.count c.in-Some.ensures.within c.in-Some.ensures.bytes c.in-Some.ensures.counted c.in-Some.ensures.readable)
          (c.in_ok-show_lines.ensures.printed c.args.limits c.args.style c.args.output.now inv.read.came inv.read.printed);
      unfailed = c.in-Some.ensures.some ∙ inv.unfailed;
      writable = c.in_ok-show_lines.ensures.writable;
      few = c.in_ok-show_lines.ensures.few;
      short = c.in_ok-show_lines.ensures.short;
      size = omega (arith, c.read.auto.into);
    }

pub returns-in_err-show_lines : goal.returns-in_err-show_lines
returns-in_err-show_lines g c =
    let inv = c.loop-count.invariant in
    let out = err_from_is_err_and c.from_residual.result c.from_residual.ensures.1 in
    let is : c.from_residual.result ≡ Err c.in_err-show_lines.field-0.0 = out.1 ∙ ap Err out.2 in
    let size : length (take c.in-Some.count c.read.new.into) ≤ 4096 = omega (arith, length-take-le c.in-Some.count c.read.new.into c.in-Some.ensures.within, c.in-Some.ensures.within, c.read.auto.into) in
    subst (λ (r : Result CaptureReport ShowStop). IsShown c.args.limits c.args.style c.args.input.now c.read.new.self c.args.output.now c.show_lines.new.output r) (sym is)
    (stops_here c.args.limits c.args.style c.args.input.now c.loop-count.input c.read.new.self c.args.output.now c.loop-count.capture c.loop-count.lines c.loop-count.output
    inv.read inv.few (take c.in-Some.count c.read.new.into) c.in_err-show_lines.field-0.0 c.show_lines.new.output
    (consumed_read c.loop-count.input c.read.new.self c.read.new.into c.in-Some.count c.in-Some.ensures.within c.in-Some.ensures.bytes c.in-Some.ensures.counted c.in-Some.ensures.readable) size (c.in-Some.ensures.some ∙ inv.unfailed)
    (c.in_err-show_lines.ensures.stop c.args.limits c.args.style c.args.output.now inv.read.came inv.read.printed))
