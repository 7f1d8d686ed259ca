use Rattle.std.proofs.Common.{rules, sym}
use Rattle.std.proofs.lemmas.Nat.{be_bytes_8}
use Rattle.wsn_wire.proofs.length_encoding.read_eight_byte_length.Goals as goal

pub returns-clause-read : goal.returns-clause-read
returns-clause-read c = sym (be_bytes_8 c.args.b c.from_be_bytes-len.result (search rules) (search rules) c.from_be_bytes-len.ensures)

pub returns-then-len-le-TWO_MAX-clause-refused : goal.returns-then-len-le-TWO_MAX-clause-refused
returns-then-len-le-TWO_MAX-clause-refused c = search rules

pub returns-then-len-clause-refused : goal.returns-then-len-clause-refused
returns-then-len-clause-refused c = search rules

pub returns-clause-decoded : goal.returns-clause-decoded
returns-clause-decoded c = search rules

pub returns-clause-nothing_evident : goal.returns-clause-nothing_evident
returns-clause-nothing_evident c = search rules
