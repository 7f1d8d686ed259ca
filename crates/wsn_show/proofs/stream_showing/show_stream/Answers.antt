use Rattle.std.proofs.Common.{◌≡◌, ◌++◌, Result, Ok, Err, [], take, refl, sym, ap, ◌∙◌, subst, arith, length-append, length-take-le, rules}
use Rattle.std.proofs.lemmas.Result.{err_from_is_err_and}
use Rattle.wsn_io.specs.declared.stop.Stop.{Stop}
use Rattle.wsn_rules.specs.declared.verdict.Verdict.{Verdict}
use Rattle.wsn_rules.specs.Verdict.{IsVerdict}
use Rattle.wsn_print.specs.declared.style.Style.{Style}
use Rattle.wsn_parts.specs.Listing.{IsEnded}
use Rattle.wsn_scan.proofs.ChunksSoFar.{next_chunk, next_end, same_size, short_chunk}
use Rattle.wsn_show.specs.StreamShows.{IsStreamShown}
use Rattle.wsn_show.proofs.ShownStreamInputs.{begins, stopped, ended, write_failed, refuses, goes_on}
use Rattle.wsn_show.proofs.stream_showing.show_stream.Goals as goal

pub new-stream-requires : goal.new-stream-requires
new-stream-requires g c = c.requires.memory

pub loop-len-init : goal.loop-len-init
loop-len-init g c = record {
  read = ([], begins c.args.role c.args.limits c.args.style c.args.input.now c.new-chunks.result c.args.output.now c.new-stream.result (c.new-chunks.ensures c.args.input.now c.requires.readable) c.new-stream.ensures c.requires.writable);
  size = refl;
}

pub slice_bounds-next-end : goal.slice_bounds-next-end
slice_bounds-next-end g c = search rules

pub next-requires : goal.next-requires
next-requires g c = omega (arith, c.loop-len.invariant.size)

pub returns-in_err-len : goal.returns-in_err-len
returns-in_err-len g c =
    let read = c.loop-len.invariant.read in
    let out = err_from_is_err_and c.from_residual.result c.from_residual.ensures.1 in
    let is : c.from_residual.result ≡ Err c.in_err-len.field-0.0 = out.1 ∙ ap Err out.2 in
    subst (λ (r : Result Verdict Stop). IsStreamShown c.args.role c.args.limits c.args.style c.args.input.now c.next.new.input c.args.output.now c.loop-len.output r) (sym is)
    (stopped c.args.role c.args.limits c.args.style c.args.input.now c.loop-len.input c.loop-len.chunks c.args.output.now c.loop-len.output c.loop-len.stream read.0 read.1
    c.next.new.input c.in_err-len.field-0.0 (c.in_err-len.ensures.next c.args.limits c.args.input.now read.0 read.1.come))

pub slice_bounds-buffer-end : goal.slice_bounds-buffer-end
slice_bounds-buffer-end g c =
    let read = c.loop-len.invariant.read in
    let got = next_chunk c.in-Some.is (c.in_ok-len.ensures.next c.args.limits c.args.input.now read.0 read.1.come) in
    got.in_buffer

pub slice_bounds-take-end : goal.slice_bounds-take-end
slice_bounds-take-end g c =
    let read = c.loop-len.invariant.read in
    let got = next_chunk c.in-Some.is (c.in_ok-len.ensures.next c.args.limits c.args.input.now read.0 read.1.come) in
    sym (length-take-le c.in-Some.len c.next.new.buffer got.in_buffer)

pub take-requires-clause-fits : goal.take-requires-clause-fits
take-requires-clause-fits g c =
    let read = c.loop-len.invariant.read in
    let got = next_chunk c.in-Some.is (c.in_ok-len.ensures.next c.args.limits c.args.input.now read.0 read.1.come) in
    let now = got.come.counted.room in
    let before = read.1.viewed.room in
    omega (arith, now, before, length-append read.0 (take c.in-Some.len c.next.new.buffer))

pub take-requires-clause-writable : goal.take-requires-clause-writable
take-requires-clause-writable g c = c.loop-len.invariant.read.1.written.0

pub returns-then-failed : goal.returns-then-failed
returns-then-failed g c =
    let read = c.loop-len.invariant.read in
    let got = next_chunk c.in-Some.is (c.in_ok-len.ensures.next c.args.limits c.args.input.now read.0 read.1.come) in
    let viewed = c.take.ensures.viewed c.args.role c.args.limits c.args.style read.0 read.1.viewed in
    let shows = c.take.ensures.printed c.args.role c.args.limits c.args.style read.0 read.1.viewed in
    write_failed c.args.role c.args.limits c.args.style c.args.input.now c.loop-len.input c.loop-len.chunks c.args.output.now c.loop-len.output c.loop-len.stream read.0 read.1
    c.next.new.input c.next.new.self (take c.in-Some.len c.next.new.buffer) got.come (short_chunk got (c.next.auto.buffer ∙ c.loop-len.invariant.size)) c.take.new.self c.take.new.output viewed shows (sym c.failed.ensures ∙ c.if-failed.true)

pub put_answer-requires : goal.put_answer-requires
put_answer-requires g c = sym c.failed.ensures ∙ c.if-failed.false

pub returns-in-Refused : goal.returns-in-Refused
returns-in-Refused g c =
    let read = c.loop-len.invariant.read in
    let got = next_chunk c.in-Some.is (c.in_ok-len.ensures.next c.args.limits c.args.input.now read.0 read.1.come) in
    let viewed = c.take.ensures.viewed c.args.role c.args.limits c.args.style read.0 read.1.viewed in
    let shows = c.take.ensures.printed c.args.role c.args.limits c.args.style read.0 read.1.viewed in
    let is = c.verdict-verdict.ensures c.args.role c.args.limits c.args.style (read.0 ++ take c.in-Some.len c.next.new.buffer) viewed in
    let refused = subst (λ (v : Verdict). IsVerdict c.args.role c.args.limits (read.0 ++ take c.in-Some.len c.next.new.buffer) is.0 v) c.in-Refused.is is.1 in
    let own_style : c.style.result ≡ c.args.style = c.style.ensures ∙ viewed.in_style in
    let put = subst (λ (v : Verdict). IsEnded c.args.style.format c.take.new.output c.put_answer.new.output v c.put_answer.result) c.in-Refused.is
    (subst (λ (s : Style). IsEnded s.format c.take.new.output c.put_answer.new.output c.verdict-verdict.result c.put_answer.result) own_style c.put_answer.ensures) in
    refuses c.args.role c.args.limits c.args.style c.args.input.now c.loop-len.input c.loop-len.chunks c.args.output.now c.loop-len.output c.loop-len.stream read.0 read.1
    c.next.new.input c.next.new.self (take c.in-Some.len c.next.new.buffer) got.come (short_chunk got (c.next.auto.buffer ∙ c.loop-len.invariant.size)) c.take.new.self c.take.new.output viewed shows (sym c.failed.ensures ∙ c.if-failed.false)
    is.0 c.in-Refused.field-0 refused c.put_answer.new.output c.put_answer.result put

pub loop-len-smaller : goal.loop-len-smaller
loop-len-smaller g c = c.in_ok-len.ensures.falls c.in-Some.len (ap Ok c.in-Some.is)

pub loop-len-preserved : goal.loop-len-preserved
loop-len-preserved g c =
    let read = c.loop-len.invariant.read in
    let got = next_chunk c.in-Some.is (c.in_ok-len.ensures.next c.args.limits c.args.input.now read.0 read.1.come) in
    let viewed = c.take.ensures.viewed c.args.role c.args.limits c.args.style read.0 read.1.viewed in
    let shows = c.take.ensures.printed c.args.role c.args.limits c.args.style read.0 read.1.viewed in
    let is = c.verdict-verdict.ensures c.args.role c.args.limits c.args.style (read.0 ++ take c.in-Some.len c.next.new.buffer) viewed in
    record {
      read = (
        read.0 ++ take c.in-Some.len c.next.new.buffer,
        goes_on c.args.role c.args.limits c.args.style c.args.input.now c.loop-len.input c.loop-len.chunks c.args.output.now c.loop-len.output c.loop-len.stream read.0 read.1
            c.next.new.input c.next.new.self (take c.in-Some.len c.next.new.buffer) got.come (short_chunk got (c.next.auto.buffer ∙ c.loop-len.invariant.size)) c.take.new.self c.take.new.output viewed shows (sym c.failed.ensures ∙ c.if-failed.false)
            is.0 c.verdict-verdict.result is.1 c.in_default-verdict.not-Refused,
      );
      size = same_size c.in-Some.len c.next.new.buffer c.take.new.bytes got.in_buffer c.take.auto.bytes ∙ c.next.auto.buffer ∙ c.loop-len.invariant.size;
    }

pub end-requires : goal.end-requires
end-requires g c = c.loop-len.invariant.read.1.written.0

pub returns : goal.returns
returns g c =
    let read = c.loop-len.invariant.read in
    let end = next_end c.next.new.self c.next.new.buffer c.in_default.is (c.in_ok-len.ensures.next c.args.limits c.args.input.now read.0 read.1.come) in
    ended c.args.role c.args.limits c.args.style c.args.input.now c.loop-len.input c.loop-len.chunks c.args.output.now c.loop-len.output c.loop-len.stream read.0 read.1
    c.next.new.input c.end.new.output end c.end.result (c.end.ensures c.args.role c.args.limits c.args.style read.0 c.args.output.now read.1.text read.1.viewed read.1.unrefused read.1.is_text read.1.written)
