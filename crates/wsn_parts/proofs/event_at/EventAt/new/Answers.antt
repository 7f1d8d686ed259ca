use Rattle.std.proofs.Common.{refl, arith}
use Rattle.wsn_parts.proofs.event_at.EventAt.new.Goals as goal

pub returns : goal.returns
returns c = record { sought = refl; frame = (λ some. absurd (some refl), refl); next = refl; begun = (omega arith, refl) }
