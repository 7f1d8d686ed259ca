use Rattle.std.proofs.Common.{arith, rules}
use Rattle.std.proofs.lemmas.Grind.{common_steps}
use Rattle.wsn_show.proofs.last_payload.LastPayload.offset_at.Goals as goal

pub as_slice-requires : goal.as_slice-requires
as_slice-requires c = search rules

pub get-requires : goal.get-requires
get-requires c κs = search rules

pub returns-in-Some : goal.returns-in-Some
returns-in-Some c = grind (arith, common_steps)

pub returns-in-None : goal.returns-in-None
returns-in-None c = grind (arith, common_steps)
