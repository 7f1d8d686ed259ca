use Rattle.std.proofs.lemmas.Grind.{common_steps}
use Rattle.std.proofs.Common.{rules, arith}
use Rattle.wsn_wire.proofs.length_encoding.read_two_byte_length.Goals as goal

pub returns-clause-nothing_evident : goal.returns-clause-nothing_evident
returns-clause-nothing_evident c = search rules

pub returns-then-len-le-SHORT_MAX-clause-refused : goal.returns-then-len-le-SHORT_MAX-clause-refused
returns-then-len-le-SHORT_MAX-clause-refused c = search rules

pub returns-clause-read : goal.returns-clause-read
returns-clause-read c = grind (arith, common_steps)

pub returns-clause-decoded : goal.returns-clause-decoded
returns-clause-decoded c = search rules
