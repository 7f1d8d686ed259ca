use Rattle.std.proofs.Common.{rules}
use Rattle.wsn_parts.proofs.listing.end.Goals as goal

pub put_verdict_as-requires : goal.put_verdict_as-requires
put_verdict_as-requires g c = search rules

pub returns-in_err-put_verdict_as : goal.returns-in_err-put_verdict_as
returns-in_err-put_verdict_as g c = search rules

pub returns : goal.returns
returns g c = search rules
