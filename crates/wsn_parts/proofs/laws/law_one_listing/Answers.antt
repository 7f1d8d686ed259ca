use Rattle.wsn_parts.proofs.OneListing.{one_listing}
use Rattle.wsn_parts.proofs.laws.law_one_listing.Goals as goal

pub returns : goal.returns
returns c = λ format role limits all before after other_before other_after result other says also one two. one_listing role limits format all before after other_before other_after result other says also one two
