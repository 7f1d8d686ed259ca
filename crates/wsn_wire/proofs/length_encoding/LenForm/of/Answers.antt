use Rattle.std.proofs.Common.{rules}
use Rattle.wsn_wire.proofs.length_encoding.LenForm.of.Goals as goal

pub returns-in-Shortest-3 : goal.returns-in-Shortest-3
returns-in-Shortest-3 c = search rules
