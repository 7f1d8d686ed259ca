use Rattle.std.proofs.Common.{refl}
use Rattle.wsn_events.proofs.PayloadParts.{are_parts}
use Rattle.wsn_events.proofs.payload_difference.PayloadDifference.shown.Goals as goal

pub returns : goal.returns
returns c n place one other few are =
    are_parts n c.args.self.now (record { place = c.args.self.now.place; first = c.part.result; second = c.part-2.result }) place one other few are refl c.part.ensures c.part-2.ensures
