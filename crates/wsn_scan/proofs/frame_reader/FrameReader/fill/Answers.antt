use Rattle.std.proofs.Common.{◌≡◌, Ok, Err, [], refl, ◌∙◌, ap, arith, rules}
use Rattle.wsn_scan.proofs.ChunksSoFar.{next_chunk, next_end}
use Rattle.wsn_scan.proofs.ReaderReads.{halts, input_ended, nothing_more, goes_on, not_passed, nothing_yet, room_left}
use Rattle.wsn_scan.proofs.frame_reader.FrameReader.fill.Goals as goal

pub slice_bounds-next-end : goal.slice_bounds-next-end
slice_bounds-next-end g c = search rules

pub next-requires : goal.next-requires
next-requires g c = search rules

pub invariant_of-self : goal.invariant_of-self
invariant_of-self g c = search rules

pub returns-in_err-len : goal.returns-in_err-len
returns-in_err-len g c =
    let halted = c.in_err-len.field-0.0 in
    let is : c.from_residual.result ≡ Err halted = search rules in
    record {
      filled = λ role limits came fs at used.
          rw is (halts role limits c.args.self.now came fs at used _ c.args.input.now c.next.new.input halted c.requires.readable c.in_err-len.ensures.limit c.in_err-len.ensures.kept c.in_err-len.ensures.next);
      scan = refl;
      falls = search rules;
    }

pub invariant_of-self-in_default : goal.invariant_of-self-in_default
invariant_of-self-in_default g c = search rules

pub returns-in_default : goal.returns-in_default
returns-in_default g c =
    let none = not_passed c.args.self.now.chunks.past_limit c.in_ok-len.field-0 c.in_ok-len.ensures.limit in
    record {
      filled = λ role limits came fs at used.
          let now = c.args.self.now in
          let end = next_end c.next.new.self c.next.new.buffer c.in_default.is
          (c.in_ok-len.ensures.next (room_left now.chunks) c.args.input.now [] (nothing_yet c.args.input.now now.chunks none c.requires.readable)) in
          nothing_more role limits now came fs at used _ c.args.input.now c.next.new.input end.received.consumed _
          (input_ended role limits now came fs at used c.next.new.input c.finish.result none end.at_end end.unfailed
          (c.finish.ensures.verdict role limits used.has_taken.scanned used.has_taken.since fs at used.has_taken.has_scanned) (c.finish.ensures.reported ∙ used.has_taken.unrefused));
      scan = refl;
      falls = λ is. cc;
    }

pub invariant_of-self-2 : goal.invariant_of-self-2
invariant_of-self-2 g c =
    let chunks = c.args.self.now.chunks in
    let none = not_passed chunks.past_limit c.in_ok-len.field-0 c.in_ok-len.ensures.limit in
    let got = next_chunk c.in-Some.is (c.in_ok-len.ensures.next (room_left chunks) c.args.input.now [] (nothing_yet c.args.input.now chunks none c.requires.readable)) in
    record { scanned = omega arith; left = omega arith; held = omega (arith, got.in_buffer, c.next.auto.buffer, c.args.self.now.size); size = c.next.auto.buffer ∙ c.args.self.now.size }

pub returns : goal.returns
returns g c =
    let none = not_passed c.args.self.now.chunks.past_limit c.in_ok-len.field-0 c.in_ok-len.ensures.limit in
    record {
      filled = λ role limits came fs at used.
          let got = next_chunk c.in-Some.is (c.in_ok-len.ensures.next (room_left c.args.self.now.chunks) c.args.input.now [] (nothing_yet c.args.input.now c.args.self.now.chunks none c.requires.readable)) in
          goes_on role limits c.args.self.now came fs at used _ c.args.input.now c.next.new.input got none refl refl;
      scan = refl;
      falls = λ _. c.in_ok-len.ensures.falls c.in-Some.len (ap Ok c.in-Some.is);
    }
