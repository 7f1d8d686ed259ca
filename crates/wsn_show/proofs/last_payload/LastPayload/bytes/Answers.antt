use Rattle.std.proofs.Common.{arith, rules}
use Rattle.std.proofs.lemmas.Grind.{common_steps}
use Rattle.wsn_show.proofs.last_payload.LastPayload.bytes.Goals as goal

pub new-bytes-requires : goal.new-bytes-requires
new-bytes-requires c = search rules

pub as_slice-held-items-requires : goal.as_slice-held-items-requires
as_slice-held-items-requires c = search rules

pub loop-held-init : goal.loop-held-init
loop-held-init c = search rules

pub offset_bounds-held-items-held-index : goal.offset_bounds-held-items-held-index
offset_bounds-held-items-held-index c = search rules

pub slice_bounds-add-end : goal.slice_bounds-add-end
slice_bounds-add-end c = search rules

pub add-requires : goal.add-requires
add-requires c = grind (arith, common_steps)

pub loop-held-preserved : goal.loop-held-preserved
loop-held-preserved c = search rules

pub returns : goal.returns
returns c = grind (arith, common_steps)
