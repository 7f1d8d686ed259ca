use Rattle.std.proofs.Common.{rules}
use Rattle.wsn_capture.proofs.side_bytes.SideBytes.take_line.Goals as goal

pub add-requires : goal.add-requires
add-requires c = search rules

pub invariant_of-self : goal.invariant_of-self
invariant_of-self c = search rules

pub overflow_add-number : goal.overflow_add-number
overflow_add-number c = search rules

pub invariant_of-self-in-Err : goal.invariant_of-self-in-Err
invariant_of-self-in-Err c = search rules

pub returns-in-Ok : goal.returns-in-Ok
returns-in-Ok c = record { left = search rules; falls = search rules }

pub returns-in-Err : goal.returns-in-Err
returns-in-Err c = record { left = search rules; falls = search rules }
