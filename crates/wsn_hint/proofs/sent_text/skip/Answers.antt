use Rattle.std.proofs.Common.{◌≡◌, ◌++◌, length, take, length-append, length-take, length-take-le, arith}
use Rattle.std.proofs.KnownBytes.{Consumes-trans}
use Rattle.wsn_hint.proofs.sent_text.skip.Goals as goal

pub loop-left-preserved : goal.loop-left-preserved
loop-left-preserved g c =
    let loop = c.loop-left.invariant in
    let read = c.in-Some.ensures in
    let came = take c.in-Some.read c.read.new.into in
    let few = c.min.ensures in
    let size : length came ≡ c.in-Some.read = length-take-le c.in-Some.read c.read.new.into read.within in (
      loop.0 ++ came,
      Consumes-trans c.args.input.now.remaining c.loop-left.input.remaining c.read.new.self.remaining loop.0 came loop.1 read.bytes,
      omega (arith, loop.2, size, few, read.within, length-append loop.0 came, c.read.auto.into, length-take c.min.result c.loop-left.buffer),
    )
