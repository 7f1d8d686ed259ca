use Rattle.std.proofs.Common.{ℕ, List, ap, rules}
use Rattle.wsn_rules.specs.BadCharacter.{last_of}
use Rattle.wsn_show.proofs.earlier_payload.EarlierPayload.clear.Goals as goal

pub returns : goal.returns
returns c = ap (λ (bs : List ℕ). last_of 48 bs) c.clear.ensures

pub clear-requires : goal.clear-requires
clear-requires c = search rules
