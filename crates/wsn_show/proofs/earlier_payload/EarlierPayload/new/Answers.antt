use Rattle.std.proofs.Common.{ℕ, List, ap, rules}
use Rattle.wsn_rules.specs.BadCharacter.{last_of}
use Rattle.wsn_show.proofs.earlier_payload.EarlierPayload.new.Goals as goal

pub returns : goal.returns
returns c = ap (λ (bs : List ℕ). last_of 48 bs) c.new.ensures

pub new-requires : goal.new-requires
new-requires c = search rules
