use Rattle.std.proofs.Common.{[], refl}
use Rattle.wsn_show.proofs.OpenMessages.{kept_none}
use Rattle.wsn_show.proofs.message_so_far.MessageSoFar.new.Goals as goal

pub returns : goal.returns
returns c n enough = kept_none n _ [] refl refl refl (c.new.ensures n enough) c.new-2.ensures c.new-3.ensures
