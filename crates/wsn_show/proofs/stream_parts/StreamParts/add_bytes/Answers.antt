use Rattle.std.proofs.Common.{arith, length-append}
use Rattle.wsn_show.proofs.stream_parts.StreamParts.add_bytes.Goals as goal

pub returns : goal.returns
returns c n fs rest small kept =
    let own = kept.frame in
    record {
      message = kept.message;
      joined = kept.joined;
      frame = record {
        offset = own.offset;
        size = let sum = c.saturating_add-self.ensures in let before = own.size in omega (arith, sum, before, small, length-append rest c.args.bytes.now);
        head = own.head;
        begun = c.add.ensures rest small own.begun;
        last = c.add-2.ensures rest small own.last;
      };
    }
