use Rattle.std.proofs.Common.{[], refl, arith}
use Rattle.wsn_io.proofs.Received.{consumed_none}
use Rattle.wsn_scan.proofs.chunk_reader.ChunkReader.new.Goals as goal

pub returns : goal.returns
returns c input readable = record {
  past = [];
  consumed = consumed_none input;
  counted = record { room = omega (arith, c.input.ensures.value); full = λ is. cc; none = λ _. refl };
  unfailed = readable;
}
