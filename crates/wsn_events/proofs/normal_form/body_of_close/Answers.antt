use Rattle.std.proofs.Common.{rules}
use Rattle.wsn_events.proofs.normal_form.body_of_close.Goals as goal

pub returns-in-Some : goal.returns-in-Some
returns-in-Some c = search rules

pub new-body-requires : goal.new-body-requires
new-body-requires c = search rules

pub slice_bounds-try_extend_from_slice-end : goal.slice_bounds-try_extend_from_slice-end
slice_bounds-try_extend_from_slice-end c = search rules

pub try_extend_from_slice-fits-requires : goal.try_extend_from_slice-fits-requires
try_extend_from_slice-fits-requires c = search rules

pub deref-requires : goal.deref-requires
deref-requires c = search rules

pub try_extend_from_slice-fits-requires-in-Some : goal.try_extend_from_slice-fits-requires-in-Some
try_extend_from_slice-fits-requires-in-Some c = search rules

pub returns-in_default : goal.returns-in_default
returns-in_default c = search rules
