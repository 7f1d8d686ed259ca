use Rattle.wsn_parts.proofs.OnePayload.{one_payload}
use Rattle.wsn_parts.proofs.laws.law_one_payload.Goals as goal

pub returns : goal.returns
returns c = λ role limits at all before after other_before other_after result other says also one two.
    one_payload role limits at all before after other_before other_after result other says also one two
