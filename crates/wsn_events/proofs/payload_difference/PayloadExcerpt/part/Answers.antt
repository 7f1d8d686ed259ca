use Rattle.std.proofs.Common.{refl}
use Rattle.wsn_events.proofs.PayloadParts.{is_part}
use Rattle.wsn_events.proofs.payload_difference.PayloadExcerpt.part.Goals as goal

pub returns : goal.returns
returns c n place event few is =
    is_part n place event c.args.self.now
    (record { is_text = c.args.self.now.is_text; from = c.args.self.now.from; before = c.args.self.now.before; bytes = record { bytes = c.args.self.now.bytes; held = c.as_slice.result } }) few is refl refl refl refl c.as_slice.ensures.value
