use Rattle.std.proofs.Common.{refl}
use Rattle.wsn_show.proofs.OpenMessages.{kept_none}
use Rattle.wsn_show.proofs.message_so_far.MessageSoFar.close.Goals as goal

pub returns : goal.returns
returns c n fs enough nothing = kept_none n _ fs nothing refl refl (c.clear.ensures n enough) c.clear-2.ensures c.clear-3.ensures
