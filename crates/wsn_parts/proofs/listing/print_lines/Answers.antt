use Rattle.std.proofs.Common.{rules}
use Rattle.wsn_parts.proofs.listing.print_lines.Goals as goal

pub returns-clause-none_held : goal.returns-clause-none_held
returns-clause-none_held g c = search rules
