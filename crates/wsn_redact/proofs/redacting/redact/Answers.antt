use Rattle.std.proofs.Common.{◌≡◌, Result, Ok, Err, [], ◌++◌, take, refl, sym, ap, ◌∙◌, subst, arith, length-append, length-take-le, rules}
use Rattle.std.proofs.lemmas.Result.{err_from_is_err_and}
use Rattle.wsn_io.specs.declared.stop.Stop.{Stop}
use Rattle.wsn_io.specs.declared.stop.Stop.TheVariants as stop
use Rattle.wsn_rules.specs.declared.verdict.Verdict.{Verdict}
use Rattle.wsn_scan.proofs.ChunksSoFar.{next_chunk, next_end, same_size, short_chunk}
use Rattle.wsn_redact.specs.Redacting.{IsRedactedInput}
use Rattle.wsn_redact.proofs.RedactedInputs.{with_verdict, begins, stopped, ended, goes_on, write_failed, of_all}
use Rattle.wsn_redact.proofs.redacting.redact.Goals as goal

pub loop-len-init : goal.loop-len-init
loop-len-init g c = record {
  read = (
    [],
    begins c.args.role c.args.limits c.args.input.now c.new-chunks.result c.args.output.now c.new-scan.result c.new-redactor.result (c.new-chunks.ensures c.args.input.now c.requires.readable) c.new-scan.ensures c.new-redactor.ensures.keeps c.new-redactor.ensures.none c.requires.writable,
  );
  size = refl;
}

pub returns-in_err-len-clause-redacted : goal.returns-in_err-len-clause-redacted
returns-in_err-len-clause-redacted g c =
    let read = c.loop-len.invariant.read in
    let is : c.from_residual.result ≡ Err c.in_err-len.field-0.0 = search rules in
    subst (λ (r : Result Verdict Stop). IsRedactedInput c.args.role c.args.limits c.args.input.now c.next.new.input c.args.output.now c.loop-len.output r) (sym is)
    (stopped c.args.role c.args.limits c.args.input.now c.loop-len.input c.loop-len.chunks c.args.output.now c.loop-len.output c.loop-len.scan c.loop-len.redactor read.0 read.1 c.next.new.input c.in_err-len.field-0.0
    (c.in_err-len.ensures.next c.args.limits c.args.input.now read.0 read.1.come))

pub returns-in_err-len-clause-whole : goal.returns-in_err-len-clause-whole
returns-in_err-len-clause-whole g c all known = of_all c.args.role c.args.limits c.args.input.now _ c.args.output.now _ all _ (returns-in_err-len-clause-redacted g c) known

pub slice_bounds-buffer-end : goal.slice_bounds-buffer-end
slice_bounds-buffer-end g c =
    let read = c.loop-len.invariant.read in
    let got = next_chunk c.in-Some.is (c.in_ok-len.ensures.next c.args.limits c.args.input.now read.0 read.1.come) in
    got.in_buffer

pub slice_bounds-chunk-end : goal.slice_bounds-chunk-end
slice_bounds-chunk-end g c =
    let read = c.loop-len.invariant.read in
    let got = next_chunk c.in-Some.is (c.in_ok-len.ensures.next c.args.limits c.args.input.now read.0 read.1.come) in
    sym (length-take-le c.in-Some.len c.next.new.buffer got.in_buffer)

pub redact_chunk-requires : goal.redact_chunk-requires
redact_chunk-requires g c =
    let read = c.loop-len.invariant.read in
    let got = next_chunk c.in-Some.is (c.in_ok-len.ensures.next c.args.limits c.args.input.now read.0 read.1.come) in
    record {
      role = c.args.role;
      limits = c.args.limits;
      came = read.0;
      written = read.1.text;
      has_redacted = read.1.has_redacted;
      within = let room = got.come.counted.room in omega (arith, room, length-append read.0 (take c.in-Some.len c.next.new.buffer));
    }

pub put_line-requires : goal.put_line-requires
put_line-requires g c = c.loop-len.invariant.read.1.written.0

pub returns-in_err-put_line-clause-redacted : goal.returns-in_err-put_line-clause-redacted
returns-in_err-put_line-clause-redacted g c =
    let read = c.loop-len.invariant.read in
    let got = next_chunk c.in-Some.is (c.in_ok-len.ensures.next c.args.limits c.args.input.now read.0 read.1.come) in
    let out = err_from_is_err_and c.from_residual-in_err-put_line.result c.from_residual-in_err-put_line.ensures.1 in
    let is : c.from_residual-in_err-put_line.result ≡ Err stop.Write = out.1 ∙ ap Err (out.2 ∙ c.in_err-put_line.ensures.0) in
    subst (λ (r : Result Verdict Stop). IsRedactedInput c.args.role c.args.limits c.args.input.now c.next.new.input c.args.output.now c.put_line.new.to r) (sym is)
    (write_failed c.args.role c.args.limits c.args.input.now c.loop-len.input c.loop-len.chunks c.args.output.now c.loop-len.output c.loop-len.scan c.loop-len.redactor read.0 read.1
    c.next.new.input c.next.new.self (take c.in-Some.len c.next.new.buffer) got.come c.redact_chunk.new.scan c.redact_chunk.new.redactor c.redact_chunk.new.chunk c.redact_chunk.ensures c.redact_chunk.auto.chunk
    (short_chunk got (c.next.auto.buffer ∙ c.loop-len.invariant.size)) c.put_line.new.to c.in_err-put_line.ensures.1)

pub returns-in_err-put_line-clause-whole : goal.returns-in_err-put_line-clause-whole
returns-in_err-put_line-clause-whole g c all known = of_all c.args.role c.args.limits c.args.input.now _ c.args.output.now _ all _ (returns-in_err-put_line-clause-redacted g c) known

pub loop-len-smaller : goal.loop-len-smaller
loop-len-smaller g c = c.in_ok-len.ensures.falls c.in-Some.len (ap Ok c.in-Some.is)

pub loop-len-preserved : goal.loop-len-preserved
loop-len-preserved g c =
    let read = c.loop-len.invariant.read in
    let got = next_chunk c.in-Some.is (c.in_ok-len.ensures.next c.args.limits c.args.input.now read.0 read.1.come) in
    record {
      read = (
        read.0 ++ take c.in-Some.len c.next.new.buffer,
        goes_on c.args.role c.args.limits c.args.input.now c.loop-len.input c.loop-len.chunks c.args.output.now c.loop-len.output c.loop-len.scan c.loop-len.redactor read.0 read.1
            c.next.new.input c.next.new.self (take c.in-Some.len c.next.new.buffer) got.come c.redact_chunk.new.scan c.redact_chunk.new.redactor c.redact_chunk.new.chunk c.redact_chunk.ensures c.redact_chunk.auto.chunk c.put_line.new.to c.in_ok-put_line.ensures,
      );
      size = same_size c.in-Some.len c.next.new.buffer c.redact_chunk.new.chunk got.in_buffer c.redact_chunk.auto.chunk ∙ c.next.auto.buffer ∙ c.loop-len.invariant.size;
    }

pub returns-clause-redacted : goal.returns-clause-redacted
returns-clause-redacted g c =
    let read = c.loop-len.invariant.read in
    let end = next_end c.next.new.self c.next.new.buffer c.in_default.is (c.in_ok-len.ensures.next c.args.limits c.args.input.now read.0 read.1.come) in
    ended c.args.role c.args.limits c.args.input.now c.loop-len.input c.loop-len.chunks c.args.output.now c.loop-len.output c.loop-len.scan c.loop-len.redactor read.0 read.1 c.next.new.input end c.finish.result
    (with_verdict c.args.role c.args.limits c.loop-len.scan c.loop-len.redactor read.0 read.1.text c.finish.result (λ bytes rest fs at has. c.finish.ensures.verdict c.args.role c.args.limits bytes rest fs at has) c.finish.ensures.reported read.1.has_redacted)

pub returns-clause-whole : goal.returns-clause-whole
returns-clause-whole g c all known = of_all c.args.role c.args.limits c.args.input.now _ c.args.output.now _ all _ (returns-clause-redacted g c) known
