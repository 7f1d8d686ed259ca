use Rattle.std.proofs.Common.{◌≡◌, ◌<◌, ℕ, Option, None, Some, Result, Ok, Err, List, ◌++◌, ap, ◌∙◌, sym, subst, rules, arith}
use Rattle.wsn_wire.specs.declared.endpoint.Role.{Role}
use Rattle.wsn_wire.specs.Frame.{Frame}
use Rattle.wsn_rules.specs.Limits.{Limits}
use Rattle.wsn_rules.specs.declared.verdict.Verdict.{Verdict}
use Rattle.wsn_io.specs.declared.stop.Stop.{Stop}
use Rattle.wsn_scan.specs.Positions.{Position}
use Rattle.wsn_scan.specs.FrameReaders.{HasTaken}
use Rattle.wsn_scan.specs.ReadParts.{ReadsOn, IsFilled}
use Rattle.wsn_scan.specs.Scans.{room_of}
use Rattle.wsn_scan.specs.ChunkReaders.{chunks_ahead}
use Rattle.wsn_scan.specs.declared.chunk_reader.ChunkReader.{ChunkReader}
use Rattle.wsn_scan.specs.declared.scan.Scan.{Scan}
use Rattle.wsn_scan.proofs.ReaderCalls.{begins, answers, refused_done, fills, ends, halts, reading_of, used_by}
use Rattle.wsn_scan.proofs.frame_reader.FrameReader.next.Goals as goal

pub loop-self-init : goal.loop-self-init
loop-self-init g c = record {
  read = λ role limits came fs at has_taken. begins role limits c.args.input.now came fs at c.args.self.now has_taken;
  unfailed = c.requires.readable;
  left = omega arith;
}

pub step-requires : goal.step-requires
step-requires g c =
    let b = c.requires.begun in
    let read = c.loop-self.invariant.read b.role b.limits b.came b.frames b.position b.has_taken in
    record { begun = reading_of b.role b.limits c.loop-self.self (b.came ++ read.more) b.frames b.position read.has_taken }

pub returns-in-Part-clause-next : goal.returns-in-Part-clause-next
returns-in-Part-clause-next g c role limits came fs at has_taken =
    let read = c.loop-self.invariant.read role limits came fs at has_taken in
    answers role limits c.args.input.now came fs at c.loop-self.input c.loop-self.self read c.step.new.self c.step.new.part (Ok None)
    (c.in-Part.ensures.taken role limits (came ++ read.more) fs at read.has_taken, c.loop-self.invariant.unfailed)

pub returns-in-Part-clause-falls : goal.returns-in-Part-clause-falls
returns-in-Part-clause-falls g c = search rules

pub returns-in-Refused-clause-next : goal.returns-in-Refused-clause-next
returns-in-Refused-clause-next g c role limits came fs at has_taken =
    let read = c.loop-self.invariant.read role limits came fs at has_taken in
    let refused = c.in-Refused.ensures.taken role limits (came ++ read.more) fs at read.has_taken in
    answers role limits c.args.input.now came fs at c.loop-self.input c.loop-self.self read c.step.new.self c.step.new.part (Ok (Some c.finish.result))
    (refused_done role limits c.args.input.now came fs at c.loop-self.input c.loop-self.self read c.step.new.self c.finish.result refused (c.finish.ensures.reported ∙ refused.reported) c.loop-self.invariant.unfailed)

pub returns-in-Refused-clause-falls : goal.returns-in-Refused-clause-falls
returns-in-Refused-clause-falls g c = search rules

pub fill-requires : goal.fill-requires
fill-requires g c = search rules

pub returns-in_err-verdict-in-More-clause-next : goal.returns-in_err-verdict-in-More-clause-next
returns-in_err-verdict-in-More-clause-next g c role limits came fs at has_taken =
    let read = c.loop-self.invariant.read role limits came fs at has_taken in
    let used = used_by role limits c.step.new.self c.step.new.part (came ++ read.more) fs at c.step.result c.in-More.is (c.step.ensures.taken role limits (came ++ read.more) fs at read.has_taken) in
    let halted = c.in_err-verdict-in-More.field-0.0 in
    let filled = c.in_err-verdict-in-More.ensures.filled role limits (came ++ read.more) fs at used in
    let is : c.from_residual.result ≡ Err halted = search rules in
    subst (λ (r : Result (Option Verdict) Stop). ReadsOn role limits c.args.input.now c.fill.new.input c.fill.new.self c.step.new.part came fs at r) (sym is)
    (halts role limits c.args.input.now came fs at c.loop-self.input c.loop-self.self read c.fill.new.input c.fill.new.self c.step.new.part halted filled)

pub returns-in_err-verdict-in-More-clause-falls : goal.returns-in_err-verdict-in-More-clause-falls
returns-in_err-verdict-in-More-clause-falls g c = search rules

pub returns-in-Some-clause-next : goal.returns-in-Some-clause-next
returns-in-Some-clause-next g c role limits came fs at has_taken =
    let read = c.loop-self.invariant.read role limits came fs at has_taken in
    let used = used_by role limits c.step.new.self c.step.new.part (came ++ read.more) fs at c.step.result c.in-More.is (c.step.ensures.taken role limits (came ++ read.more) fs at read.has_taken) in
    let filled = c.in_ok-verdict-in-More.ensures.filled role limits (came ++ read.more) fs at used in
    ends role limits c.args.input.now came fs at c.loop-self.input c.loop-self.self read c.fill.new.input c.fill.new.self c.step.new.part c.in-Some.verdict
    (subst (λ (v : Option Verdict). IsFilled role limits c.loop-self.input c.fill.new.input c.fill.new.self (came ++ read.more) fs at (Ok v)) c.in-Some.is filled)

pub returns-in-Some-clause-falls : goal.returns-in-Some-clause-falls
returns-in-Some-clause-falls g c = search rules

pub loop-self-smaller : goal.loop-self-smaller
loop-self-smaller g c =
    let was : c.fill.result ≡ Ok None = c.in_ok-verdict-in-More.was ∙ ap (λ (v : Option Verdict). Ok v) c.in_default.is in
    subst (λ (chunks : ChunkReader). chunks_ahead c.fill.new.self.chunks < chunks_ahead chunks) c.step.ensures.chunks (c.fill.ensures.falls was)

pub loop-self-preserved : goal.loop-self-preserved
loop-self-preserved g c =
    let was : c.fill.result ≡ Ok None = c.in_ok-verdict-in-More.was ∙ ap (λ (v : Option Verdict). Ok v) c.in_default.is in
    let same = ap (λ (s : Scan). room_of s) c.fill.ensures.scan in
    let filled_by : (role : Role) (limits : Limits) (came : List ℕ) (fs : List Frame) (at : Position) (has_taken : HasTaken role limits c.args.self.now came fs at)
    → IsFilled role limits c.loop-self.input c.fill.new.input c.fill.new.self (came ++ (c.loop-self.invariant.read role limits came fs at has_taken).more) fs at (Ok None) =
    λ role limits came fs at has_taken.
    let read = c.loop-self.invariant.read role limits came fs at has_taken in
    subst (λ (r : Result (Option Verdict) Stop). IsFilled role limits c.loop-self.input c.fill.new.input c.fill.new.self (came ++ read.more) fs at r) was
    (c.fill.ensures.filled role limits (came ++ read.more) fs at
    (used_by role limits c.step.new.self c.step.new.part (came ++ read.more) fs at c.step.result c.in-More.is (c.step.ensures.taken role limits (came ++ read.more) fs at read.has_taken))) in
    let b = c.requires.begun in
    record {
      read = λ role limits came fs at has_taken.
          fills role limits c.args.input.now came fs at c.loop-self.input c.loop-self.self (c.loop-self.invariant.read role limits came fs at has_taken) c.fill.new.input c.fill.new.self
          (filled_by role limits came fs at has_taken);
      unfailed = (filled_by b.role b.limits b.came b.frames b.position b.has_taken).next.1;
      left = omega (arith, c.step.ensures.left, same, c.loop-self.invariant.left);
    }
