use Rattle.std.proofs.Common.{rules}
use Rattle.wsn_wire.proofs.opcode.Op.from_opcode.Goals as goal

pub returns-in-10-clause-known : goal.returns-in-10-clause-known
returns-in-10-clause-known c = search rules
