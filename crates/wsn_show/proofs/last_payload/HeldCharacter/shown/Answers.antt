use Rattle.std.proofs.Common.{rules}
use Rattle.wsn_show.proofs.last_payload.HeldCharacter.shown.Goals as goal

pub as_slice-requires : goal.as_slice-requires
as_slice-requires c = search rules

pub returns : goal.returns
returns c = search rules

pub as_slice-requires-2 : goal.as_slice-requires-2
as_slice-requires-2 c = search rules
