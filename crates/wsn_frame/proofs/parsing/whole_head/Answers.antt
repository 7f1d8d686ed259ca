use Rattle.std.proofs.Common.{sym, arith}
use Rattle.wsn_frame.proofs.HeadsAtOnce.{front_one}
use Rattle.wsn_frame.proofs.parsing.whole_head.Goals as goal

pub whole_head_after-requires : goal.whole_head_after-requires
whole_head_after-requires c = sym (front_one c.args.chunk.now (omega (arith, c.if-chunk-lt-HEAD_MAX.false)))
