-- The first byte is refused by itself, or after the open message, or it begins a head.
use Rattle.std.proofs.Common.{ap, ◌∙◌}
use Rattle.wsn_wire.specs.ReceivedHead.{opcode_field}
use Rattle.wsn_wire.proofs.FrameLemmas.{first_byte_fields}
use Rattle.wsn_rules.proofs.FrameBegins.{first_of_byte}
use Rattle.wsn_frame.proofs.parsing.first_byte.Goals as goal

pub returns-in-Err-clause-refused : goal.returns-in-Err-clause-refused
returns-in-Err-clause-refused c group is_open = first_of_byte c.args.context.now.limits group c.args.byte c.in-Err.reason c.in-Err.ensures.refused

pub returns-in-Some-clause-refused : goal.returns-in-Some-clause-refused
returns-in-Some-clause-refused c group is_open =
    let op_is = ap opcode_field c.in-Ok.ensures.read ∙ (first_byte_fields c.in-Ok.first.fin c.in-Ok.first.op).opcode_is in
    c.in-Some.ensures group c.args.byte is_open op_is c.in-Ok.ensures.nothing_evident

pub returns-in-None-clause-read : goal.returns-in-None-clause-read
returns-in-None-clause-read c = c.in-Ok.ensures.read

pub returns-in-None-clause-nothing_evident : goal.returns-in-None-clause-nothing_evident
returns-in-None-clause-nothing_evident c group is_open =
    let op_is = ap opcode_field c.in-Ok.ensures.read ∙ (first_byte_fields c.in-Ok.first.fin c.in-Ok.first.op).opcode_is in
    c.in-None.ensures group c.args.byte is_open op_is c.in-Ok.ensures.nothing_evident
