use Rattle.std.proofs.Common.{◌≡◌, Option, Result, Ok, Err, [], ◌++◌, take, refl, sym, ap, ◌∙◌, subst, length-append, length-take-le, arith, rules}
use Rattle.std.proofs.lemmas.Result.{err_from_is_err_and}
use Rattle.wsn_io.specs.declared.stop.Stop.{Stop}
use Rattle.wsn_scan.proofs.ChunksSoFar.{next_chunk, next_end, same_size, short_chunk}
use Rattle.wsn_parts.specs.declared.answer.Payload.{Payload}
use Rattle.wsn_parts.specs.Following.{SeeksThrough}
use Rattle.wsn_parts.specs.Payloads.{IsPayloadTaken}
use Rattle.wsn_parts.proofs.SoughtInputs.{begins, stopped, ended, goes_on, write_failed, answered, of_all}
use Rattle.wsn_parts.proofs.taking.payload.Goals as goal

pub loop-len-init : goal.loop-len-init
loop-len-init g c = record {
  read = ([], begins c.args.role c.args.limits c.args.at c.args.input.now c.new-chunks.result c.args.output.now c.new-scan.result c.new-event.result (c.new-chunks.ensures c.args.input.now c.requires.readable) c.new-scan.ensures c.new-event.ensures c.requires.writable);
  size = refl;
}

pub returns-in_err-len-clause-taken : goal.returns-in_err-len-clause-taken
returns-in_err-len-clause-taken g c =
    let read = c.loop-len.invariant.read in
    let is : c.from_residual.result ≡ Err c.in_err-len.field-0.0 = search rules in
    subst (λ (r : Result Payload Stop). IsPayloadTaken c.args.role c.args.limits c.args.at c.args.input.now c.next.new.input c.args.output.now c.loop-len.output r) (sym is)
    (stopped c.args.role c.args.limits c.args.at c.args.input.now c.loop-len.input c.loop-len.chunks c.args.output.now c.loop-len.output c.loop-len.scan c.loop-len.event read.0 read.1 c.next.new.input c.in_err-len.field-0.0
    (c.in_err-len.ensures.next c.args.limits c.args.input.now read.0 read.1.come))

pub returns-in_err-len-clause-whole : goal.returns-in_err-len-clause-whole
returns-in_err-len-clause-whole g c all known = of_all c.args.role c.args.limits c.args.at c.args.input.now _ c.args.output.now _ all _ (returns-in_err-len-clause-taken g c) known

pub slice_bounds-buffer-end : goal.slice_bounds-buffer-end
slice_bounds-buffer-end g c =
    let read = c.loop-len.invariant.read in
    let got = next_chunk c.in-Some.is (c.in_ok-len.ensures.next c.args.limits c.args.input.now read.0 read.1.come) in
    got.in_buffer

pub slice_bounds-take_chunk-end : goal.slice_bounds-take_chunk-end
slice_bounds-take_chunk-end g c =
    let read = c.loop-len.invariant.read in
    let got = next_chunk c.in-Some.is (c.in_ok-len.ensures.next c.args.limits c.args.input.now read.0 read.1.come) in
    sym (length-take-le c.in-Some.len c.next.new.buffer got.in_buffer)

pub take_chunk-requires-clause-begun : goal.take_chunk-requires-clause-begun
take_chunk-requires-clause-begun g c =
    let read = c.loop-len.invariant.read in
    record { role = c.args.role; limits = c.args.limits; at = c.args.at; came = read.0; first = c.args.output.now; has_sought = read.1.sought }

pub take_chunk-requires-clause-fits : goal.take_chunk-requires-clause-fits
take_chunk-requires-clause-fits g c =
    let read = c.loop-len.invariant.read in
    let got = next_chunk c.in-Some.is (c.in_ok-len.ensures.next c.args.limits c.args.input.now read.0 read.1.come) in
    omega (arith, got.come.counted.room, read.1.sought.followed.has_scanned.has_consumed.room, length-append read.0 (take c.in-Some.len c.next.new.buffer))

pub returns-in_err-answer-clause-taken : goal.returns-in_err-answer-clause-taken
returns-in_err-answer-clause-taken g c =
    let read = c.loop-len.invariant.read in
    let got = next_chunk c.in-Some.is (c.in_ok-len.ensures.next c.args.limits c.args.input.now read.0 read.1.come) in
    let given = c.in_err-answer.ensures c.args.role c.args.limits c.args.at read.0 c.args.output.now read.1.sought in
    let out = err_from_is_err_and c.from_residual-in_err-answer.result c.from_residual-in_err-answer.ensures.1 in
    let is : c.from_residual-in_err-answer.result ≡ Err c.in_err-answer.field-0.0 = out.1 ∙ ap Err out.2 in
    subst (λ (r : Result Payload Stop). IsPayloadTaken c.args.role c.args.limits c.args.at c.args.input.now c.next.new.input c.args.output.now c.take_chunk.new.output r) (sym is)
    (write_failed c.args.role c.args.limits c.args.at c.args.input.now c.loop-len.input c.loop-len.chunks c.args.output.now c.loop-len.output c.loop-len.scan c.loop-len.event read.0 read.1
    c.next.new.input c.next.new.self (take c.in-Some.len c.next.new.buffer) got.come (short_chunk got (c.next.auto.buffer ∙ c.loop-len.invariant.size)) c.take_chunk.new.scan c.take_chunk.new.event c.take_chunk.new.output c.in_err-answer.field-0.0 given)

pub returns-in_err-answer-clause-whole : goal.returns-in_err-answer-clause-whole
returns-in_err-answer-clause-whole g c all known = of_all c.args.role c.args.limits c.args.at c.args.input.now _ c.args.output.now _ all _ (returns-in_err-answer-clause-taken g c) known

pub returns-in-Some-2-clause-taken : goal.returns-in-Some-2-clause-taken
returns-in-Some-2-clause-taken g c =
    let read = c.loop-len.invariant.read in
    let got = next_chunk c.in-Some.is (c.in_ok-len.ensures.next c.args.limits c.args.input.now read.0 read.1.come) in
    let given = subst (λ (o : Option Payload). SeeksThrough c.args.role c.args.limits c.args.at c.take_chunk.new.scan c.take_chunk.new.event read.0 (take c.in-Some.len c.next.new.buffer) c.args.output.now c.take_chunk.new.output (Ok o)) c.in-Some-2.is
    (c.in_ok-answer.ensures c.args.role c.args.limits c.args.at read.0 c.args.output.now read.1.sought) in
    answered c.args.role c.args.limits c.args.at c.args.input.now c.loop-len.input c.loop-len.chunks c.args.output.now c.loop-len.output c.loop-len.scan c.loop-len.event read.0 read.1
    c.next.new.input c.next.new.self (take c.in-Some.len c.next.new.buffer) got.come (short_chunk got (c.next.auto.buffer ∙ c.loop-len.invariant.size)) c.take_chunk.new.scan c.take_chunk.new.event c.take_chunk.new.output c.in-Some-2.answer given

pub returns-in-Some-2-clause-whole : goal.returns-in-Some-2-clause-whole
returns-in-Some-2-clause-whole g c all known = of_all c.args.role c.args.limits c.args.at c.args.input.now _ c.args.output.now _ all _ (returns-in-Some-2-clause-taken g c) known

pub loop-len-smaller : goal.loop-len-smaller
loop-len-smaller g c = c.in_ok-len.ensures.falls c.in-Some.len (ap Ok c.in-Some.is)

pub loop-len-preserved : goal.loop-len-preserved
loop-len-preserved g c =
    let read = c.loop-len.invariant.read in
    let got = next_chunk c.in-Some.is (c.in_ok-len.ensures.next c.args.limits c.args.input.now read.0 read.1.come) in
    let given = subst (λ (o : Option Payload). SeeksThrough c.args.role c.args.limits c.args.at c.take_chunk.new.scan c.take_chunk.new.event read.0 (take c.in-Some.len c.next.new.buffer) c.args.output.now c.take_chunk.new.output (Ok o)) c.in_default-2.is
    (c.in_ok-answer.ensures c.args.role c.args.limits c.args.at read.0 c.args.output.now read.1.sought) in
    record {
      read = (
        read.0 ++ take c.in-Some.len c.next.new.buffer,
        goes_on c.args.role c.args.limits c.args.at c.args.input.now c.loop-len.input c.loop-len.chunks c.args.output.now c.loop-len.output c.loop-len.scan c.loop-len.event read.0 read.1
            c.next.new.input c.next.new.self (take c.in-Some.len c.next.new.buffer) got.come (short_chunk got (c.next.auto.buffer ∙ c.loop-len.invariant.size)) c.take_chunk.new.scan c.take_chunk.new.event c.take_chunk.new.output given,
      );
      size = same_size c.in-Some.len c.next.new.buffer c.take_chunk.new.chunk got.in_buffer c.take_chunk.auto.chunk ∙ c.next.auto.buffer ∙ c.loop-len.invariant.size;
    }

pub returns-clause-taken : goal.returns-clause-taken
returns-clause-taken g c =
    let read = c.loop-len.invariant.read in
    let end = next_end c.next.new.self c.next.new.buffer c.in_default.is (c.in_ok-len.ensures.next c.args.limits c.args.input.now read.0 read.1.come) in
    let sought = read.1.sought in
    ended c.args.role c.args.limits c.args.at c.args.input.now c.loop-len.input c.loop-len.chunks c.args.output.now c.loop-len.output c.loop-len.scan c.loop-len.event read.0 read.1 c.next.new.input end
    c.finish.result (c.finish.ensures.verdict c.args.role c.args.limits read.0 sought.rest sought.frames _ sought.followed.has_scanned) c.ended.result c.ended.ensures

pub returns-clause-whole : goal.returns-clause-whole
returns-clause-whole g c all known = of_all c.args.role c.args.limits c.args.at c.args.input.now _ c.args.output.now _ all _ (returns-clause-taken g c) known
