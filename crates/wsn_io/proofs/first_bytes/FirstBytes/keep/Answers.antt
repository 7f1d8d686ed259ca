use Rattle.std.proofs.Common.{ap, ◌∙◌, arith}
use Rattle.std.proofs.lemmas.List.{length-take}
use Rattle.wsn_io.specs.FirstReads.{FirstRead}
use Rattle.wsn_io.proofs.FirstReads.{extended, first_more}
use Rattle.wsn_io.proofs.first_bytes.FirstBytes.keep.Goals as goal

pub returns-clause-kept : goal.returns-clause-kept
returns-clause-kept g c returned first =
    let kept = c.self.inside.kept.items in
    let bytes = c.args.bytes.now in
    let room = c.remaining_capacity-room.ensures in
    let few = c.min.ensures in
    extended c.try_extend_from_slice-fits.result c.try_extend_from_slice-fits.ensures.variant (omega (arith, room, few, length-take c.min.result bytes)) c.try_extend_from_slice-fits.ensures.ok
    ∙ first_more 65536 c.remaining_capacity-room.result c.min.result kept returned bytes (ap (λ (r : FirstRead). r.kept) c.self.view_is ∙ first) room few
