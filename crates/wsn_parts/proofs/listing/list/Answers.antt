use Rattle.std.proofs.Common.{rules}
use Rattle.wsn_parts.proofs.listing.list.Goals as goal

pub returns-clause-listed : goal.returns-clause-listed
returns-clause-listed g c = search rules
