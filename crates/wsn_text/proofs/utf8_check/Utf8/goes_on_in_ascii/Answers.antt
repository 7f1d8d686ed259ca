use Rattle.wsn_text.proofs.Taking.{takes_text}
use Rattle.wsn_text.proofs.utf8_check.Utf8.goes_on_in_ascii.Goals as goal

pub returns-then-is_whole : goal.returns-then-is_whole
returns-then-is_whole c low = takes_text c.args.self.now c.args.chunk.now (λ taken has. (c.is_whole.ensures taken has).0 c.if-is_whole.true) (c.is_ascii.ensures low)
