use Rattle.std.proofs.Common.{ℕ, List, ap, ◌∙◌, rules}
use Rattle.wsn_rules.specs.BadCharacter.{last_of}
use Rattle.wsn_show.proofs.earlier_payload.EarlierPayload.end.Goals as goal

pub as_slice-requires : goal.as_slice-requires
as_slice-requires c = search rules

pub returns : goal.returns
returns c = c.end_of.ensures ∙ ap (λ (bs : List ℕ). last_of 48 bs) c.as_slice.ensures.value
