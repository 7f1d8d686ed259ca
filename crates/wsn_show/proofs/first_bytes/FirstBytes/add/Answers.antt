use Rattle.std.proofs.Common.{◌≡◌, ◌+◌, ◌-◌, length, refl, ◌∙◌, arith}
use Rattle.wsn_show.proofs.MoreBytesHeld.{counted, first_more}
use Rattle.wsn_show.proofs.first_bytes.FirstBytes.add.Goals as goal

pub returns : goal.returns
returns c came small has =
    let held = c.args.self.now.held in
    let bytes = c.args.bytes.now in
    let size = c.len-room.ensures in
    let room : (4096 - c.len-room.result) + length held ≡ 4096 = omega (arith, size.value, size.fits) in
    record {
      count = counted c.args.self.now.count (length bytes) c.saturating_add-self.result came bytes has.count refl small c.saturating_add-self.ensures;
      held = c.add.ensures ∙ first_more held came bytes (4096 - c.len-room.result) c.min.result has.held room c.min.ensures;
    }
