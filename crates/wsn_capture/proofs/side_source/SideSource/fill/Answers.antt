use Rattle.std.proofs.Common.{rules}
use Rattle.wsn_capture.proofs.side_source.SideSource.fill.Goals as goal

pub slice_bounds-read-end : goal.slice_bounds-read-end
slice_bounds-read-end g c = search rules

pub invariant_of-self : goal.invariant_of-self
invariant_of-self g c = search rules

pub returns-in_err-self : goal.returns-in_err-self
returns-in_err-self g c = record { left = search rules; falls = search rules }

pub finish-requires : goal.finish-requires
finish-requires g c = record { ready = search rules; in_line = search rules }

pub invariant_of-self-then-self-eq0 : goal.invariant_of-self-then-self-eq0
invariant_of-self-then-self-eq0 g c = search rules

pub invariant_of-self-else-self-eq0 : goal.invariant_of-self-else-self-eq0
invariant_of-self-else-self-eq0 g c = search rules

pub returns-then-self-eq0 : goal.returns-then-self-eq0
returns-then-self-eq0 g c = record { left = search rules; falls = search rules }

pub returns-else-self-eq0 : goal.returns-else-self-eq0
returns-else-self-eq0 g c = record { left = search rules; falls = search rules }
