use Rattle.std.proofs.Common.{◌≡◌, ◌↔◌, true, Result, Ok, Err, [], ◌++◌, take, refl, subst, sym, ap, ◌∙◌, length-take-le, rules}
use Rattle.wsn_rules.specs.declared.verdict.Verdict.{Verdict}
use Rattle.wsn_rules.specs.declared.verdict.Verdict.TheVariants.{Refused}
use Rattle.wsn_io.specs.declared.stop.Stop.{Stop}
use Rattle.wsn_io.specs.declared.stop.Stop.TheVariants as stop
use Rattle.wsn_scan.specs.ChunkReaders.{IsHaltOf}
use Rattle.wsn_scan.specs.Judging.{IsJudged}
use Rattle.wsn_scan.proofs.ChunksSoFar.{next_chunk, next_end, same_size, short_chunk}
use Rattle.wsn_scan.proofs.JudgedInputs.{begins, stopped, ended, fits, goes_on, refuses_input, whole_verdict, whole_limit}
use Rattle.wsn_scan.proofs.judging.judge.Goals as goal

pub loop-len-init : goal.loop-len-init
loop-len-init g c = record {
  read = ([], [], begins c.args.role c.args.limits c.args.input.now c.new-chunks.result c.new-scan.result (c.new-chunks.ensures c.args.input.now c.requires) c.new-scan.ensures);
  size = refl;
}

pub slice_bounds-next-end : goal.slice_bounds-next-end
slice_bounds-next-end g c = search rules

pub next-requires : goal.next-requires
next-requires g c = search rules

pub returns-in_err-len-clause-judged : goal.returns-in_err-len-clause-judged
returns-in_err-len-clause-judged g c =
    let read = c.loop-len.invariant.read in
    let halt = c.in_err-len.ensures.next c.args.limits c.args.input.now read.0 read.2.come in
    let is : c.from_residual.result ≡ Err c.in_err-len.field-0.0 = search rules in
    subst (λ (r : Result Verdict Stop). IsJudged c.args.role c.args.limits c.args.input.now c.next.new.input r) (sym is)
    (halt.all, stopped c.args.role c.args.limits c.args.input.now c.loop-len.input c.loop-len.chunks c.loop-len.scan read.0 read.1 read.2 c.next.new.input c.in_err-len.field-0.0 halt)

pub returns-in_err-len-clause-whole : goal.returns-in_err-len-clause-whole
returns-in_err-len-clause-whole g c = search rules

pub returns-in_err-len-clause-limit : goal.returns-in_err-len-clause-limit
returns-in_err-len-clause-limit g c all known is =
    whole_limit c.args.role c.args.limits c.args.input.now c.next.new.input all
    (subst (λ (r : Result Verdict Stop). IsJudged c.args.role c.args.limits c.args.input.now c.next.new.input r) is (returns-in_err-len-clause-judged g c)) known

pub returns-in_err-len-clause-failed : goal.returns-in_err-len-clause-failed
returns-in_err-len-clause-failed g c =
    let read = c.loop-len.invariant.read in
    let is : c.from_residual.result ≡ Err c.in_err-len.field-0.0 = search rules in
    by c.in_err-len.field-0.0 (c.in_err-len.ensures.next c.args.limits c.args.input.now read.0 read.2.come) is
  where
    by : (halted : Stop) → IsHaltOf c.args.limits c.args.input.now c.next.new.input c.loop-len.invariant.read.0 halted → c.from_residual.result ≡ Err halted → (c.from_residual.result ≡ Err stop.Read) ↔ (c.next.new.input.failed ≡ true)
    by stop.Read halt is = let failed = halt.stops.1 in search rules
    by stop.InputLimit halt is = let failed = halt.stops.1 in search rules
    by stop.Memory halt is = absurd halt.stops
    by stop.Write halt is = absurd halt.stops

pub slice_bounds-buffer-end : goal.slice_bounds-buffer-end
slice_bounds-buffer-end g c =
    let read = c.loop-len.invariant.read in
    let got = next_chunk c.in-Some.is (c.in_ok-len.ensures.next c.args.limits c.args.input.now read.0 read.2.come) in
    got.in_buffer

pub slice_bounds-feed-end : goal.slice_bounds-feed-end
slice_bounds-feed-end g c =
    let read = c.loop-len.invariant.read in
    let got = next_chunk c.in-Some.is (c.in_ok-len.ensures.next c.args.limits c.args.input.now read.0 read.2.come) in
    sym (length-take-le c.in-Some.len c.next.new.buffer got.in_buffer)

pub feed-requires-clause-begun : goal.feed-requires-clause-begun
feed-requires-clause-begun g c = search rules

pub feed-requires-clause-fits : goal.feed-requires-clause-fits
feed-requires-clause-fits g c =
    let read = c.loop-len.invariant.read in
    let got = next_chunk c.in-Some.is (c.in_ok-len.ensures.next c.args.limits c.args.input.now read.0 read.2.come) in
    fits c.args.role c.args.limits c.args.input.now c.loop-len.input c.loop-len.chunks c.loop-len.scan read.0 read.1 read.2 c.next.new.input c.next.new.self c.loop-len.scan (take c.in-Some.len c.next.new.buffer) got.come

pub returns-in-Some-feed-clause-judged : goal.returns-in-Some-feed-clause-judged
returns-in-Some-feed-clause-judged g c =
    let read = c.loop-len.invariant.read in
    let got = next_chunk c.in-Some.is (c.in_ok-len.ensures.next c.args.limits c.args.input.now read.0 read.2.come) in (
      (read.0 ++ take c.in-Some.len c.next.new.buffer) ++ got.come.past,
      refuses_input c.args.role c.args.limits c.args.input.now c.loop-len.input c.loop-len.chunks c.loop-len.scan read.0 read.1 read.2 c.next.new.input c.next.new.self c.feed.new.self (take c.in-Some.len c.next.new.buffer) got.come
          (short_chunk got (c.next.auto.buffer ∙ c.loop-len.invariant.size)) c.in-Some-feed.refusal c.in-Some-feed.ensures,
    )

pub returns-in-Some-feed-clause-whole : goal.returns-in-Some-feed-clause-whole
returns-in-Some-feed-clause-whole g c all known =
    whole_verdict c.args.role c.args.limits c.args.input.now c.next.new.input (Refused c.in-Some-feed.refusal) all (returns-in-Some-feed-clause-judged g c) known

pub returns-in-Some-feed-clause-limit : goal.returns-in-Some-feed-clause-limit
returns-in-Some-feed-clause-limit g c = search rules

pub returns-in-Some-feed-clause-failed : goal.returns-in-Some-feed-clause-failed
returns-in-Some-feed-clause-failed g c =
    let read = c.loop-len.invariant.read in
    let got = next_chunk c.in-Some.is (c.in_ok-len.ensures.next c.args.limits c.args.input.now read.0 read.2.come) in
    let unfailed = got.come.unfailed in
    search rules

pub loop-len-smaller : goal.loop-len-smaller
loop-len-smaller g c = c.in_ok-len.ensures.falls c.in-Some.len (ap Ok c.in-Some.is)

pub loop-len-preserved : goal.loop-len-preserved
loop-len-preserved g c =
    let read = c.loop-len.invariant.read in
    let got = next_chunk c.in-Some.is (c.in_ok-len.ensures.next c.args.limits c.args.input.now read.0 read.2.come) in
    record {
      read = (
        read.0 ++ take c.in-Some.len c.next.new.buffer,
        read.1 ++ c.in_default-feed.ensures.heads,
        goes_on c.args.role c.args.limits c.args.input.now c.loop-len.input c.loop-len.chunks c.loop-len.scan read.0 read.1 read.2 c.next.new.input c.next.new.self c.feed.new.self (take c.in-Some.len c.next.new.buffer) got.come c.in_default-feed.ensures,
      );
      size = same_size c.in-Some.len c.next.new.buffer c.feed.new.chunk got.in_buffer c.feed.auto.chunk ∙ c.next.auto.buffer ∙ c.loop-len.invariant.size;
    }

pub returns-clause-judged : goal.returns-clause-judged
returns-clause-judged g c =
    let read = c.loop-len.invariant.read in
    let end = next_end c.next.new.self c.next.new.buffer c.in_default.is (c.in_ok-len.ensures.next c.args.limits c.args.input.now read.0 read.2.come) in (
      read.0,
      ended c.args.role c.args.limits c.args.input.now c.loop-len.input c.loop-len.chunks c.loop-len.scan read.0 read.1 read.2 c.next.new.input c.finish.result end
          (c.finish.ensures.verdict c.args.role c.args.limits read.0 read.2.taken.since read.2.taken.frames _ read.2.taken.has_scanned) c.finish.ensures.reported,
    )

pub returns-clause-whole : goal.returns-clause-whole
returns-clause-whole g c all known =
    whole_verdict c.args.role c.args.limits c.args.input.now c.next.new.input c.finish.result all (returns-clause-judged g c) known

pub returns-clause-limit : goal.returns-clause-limit
returns-clause-limit g c = search rules

pub returns-clause-failed : goal.returns-clause-failed
returns-clause-failed g c =
    let read = c.loop-len.invariant.read in
    let end = next_end c.next.new.self c.next.new.buffer c.in_default.is (c.in_ok-len.ensures.next c.args.limits c.args.input.now read.0 read.2.come) in
    let unfailed = end.unfailed in
    search rules
