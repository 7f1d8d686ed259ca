use Rattle.std.proofs.Common.{rules}
use Rattle.wsn_wire.proofs.head_law.head_as.Goals as goal

pub returns-in-Some : goal.returns-in-Some
returns-in-Some c = search rules

pub returns-in_default : goal.returns-in_default
returns-in_default c = search rules

pub new-head-requires : goal.new-head-requires
new-head-requires c = search rules

pub push-requires : goal.push-requires
push-requires c = search rules

pub second_byte_of-requires : goal.second_byte_of-requires
second_byte_of-requires c = search rules

pub push-requires-2 : goal.push-requires-2
push-requires-2 c = search rules

pub overflow_cast-len : goal.overflow_cast-len
overflow_cast-len c = search rules

pub slice_bounds-try_extend_from_slice-end : goal.slice_bounds-try_extend_from_slice-end
slice_bounds-try_extend_from_slice-end c = search rules

pub try_extend_from_slice-fits-requires : goal.try_extend_from_slice-fits-requires
try_extend_from_slice-fits-requires c = search rules

pub try_extend_from_slice-fits-requires-in-Some : goal.try_extend_from_slice-fits-requires-in-Some
try_extend_from_slice-fits-requires-in-Some c = search rules

pub slice_bounds-try_extend_from_slice-end-in-Eight :
    goal.slice_bounds-try_extend_from_slice-end-in-Eight
slice_bounds-try_extend_from_slice-end-in-Eight c = search rules

pub try_extend_from_slice-fits-requires-in-Eight :
    goal.try_extend_from_slice-fits-requires-in-Eight
try_extend_from_slice-fits-requires-in-Eight c = search rules

pub slice_bounds-try_extend_from_slice-end-in-Some :
    goal.slice_bounds-try_extend_from_slice-end-in-Some
slice_bounds-try_extend_from_slice-end-in-Some c = search rules
