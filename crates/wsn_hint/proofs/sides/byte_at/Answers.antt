use Rattle.std.proofs.Common.{◌≡◌, ◌++◌, Some, length, take, length-append, length-take-le, arith}
use Rattle.std.proofs.KnownBytes.{Consumes-trans}
use Rattle.wsn_capture.specs.SideTexts.{sent_in}
use Rattle.wsn_hint.proofs.SentBytes.{sent_at}
use Rattle.wsn_hint.proofs.sides.byte_at.Goals as goal

pub returns-then-before-count : goal.returns-then-before-count
returns-then-before-count c =
    let loop = c.loop-count.invariant in
    let read = c.in_ok-count.ensures in
    sent_at (sent_in c.args.role c.args.first.now) loop.0 c.read.new.into c.loop-count.side.remaining c.read.new.self.remaining
    c.in_ok-count.count c.loop-count.before c.args.offset loop.1 read.bytes loop.2 (omega (arith, c.if-before-count.true)) read.within

pub loop-count-preserved : goal.loop-count-preserved
loop-count-preserved c =
    let loop = c.loop-count.invariant in
    let read = c.in_ok-count.ensures in
    let came = take c.in_ok-count.count c.read.new.into in
    let size : length came ≡ c.in_ok-count.count = length-take-le c.in_ok-count.count c.read.new.into read.within in (
      loop.0 ++ came,
      Consumes-trans (Some (sent_in c.args.role c.args.first.now)) c.loop-count.side.remaining c.read.new.self.remaining loop.0 came loop.1 read.bytes,
      omega (arith, loop.2, size, length-append loop.0 came, c.if-before-count.false),
      omega (arith, loop.3, c.read.auto.into),
    )
