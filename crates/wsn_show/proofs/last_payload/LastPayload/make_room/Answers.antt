use Rattle.std.proofs.Common.{rules}
use Rattle.wsn_show.proofs.last_payload.LastPayload.make_room.Goals as goal

pub is_full-requires : goal.is_full-requires
is_full-requires c = search rules

pub remove-requires : goal.remove-requires
remove-requires c = search rules

pub returns-then-is_full : goal.returns-then-is_full
returns-then-is_full c = search rules

pub returns-else-is_full : goal.returns-else-is_full
returns-else-is_full c = search rules
