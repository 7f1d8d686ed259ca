use Rattle.std.proofs.Common.{rules}
use Rattle.wsn_io.proofs.blocks.BlockReader.fill.Goals as goal

pub returns-in_err-self-clause-bytes : goal.returns-in_err-self-clause-bytes
returns-in_err-self-clause-bytes g c = search rules

pub returns-in_ok-self-clause-bytes : goal.returns-in_ok-self-clause-bytes
returns-in_ok-self-clause-bytes g c = search rules

pub slice_bounds-read-end : goal.slice_bounds-read-end
slice_bounds-read-end c = search rules

pub invariant_of-self : goal.invariant_of-self
invariant_of-self c = search rules

pub returns-in_err-self-clause-end : goal.returns-in_err-self-clause-end
returns-in_err-self-clause-end c = search rules

pub invariant_of-self-then-self : goal.invariant_of-self-then-self
invariant_of-self-then-self c = search rules

pub returns-in_ok-self-clause-end : goal.returns-in_ok-self-clause-end
returns-in_ok-self-clause-end c = search rules

pub returns-else-self-clause-bytes : goal.returns-else-self-clause-bytes
returns-else-self-clause-bytes c = search rules

pub returns-else-self-clause-end : goal.returns-else-self-clause-end
returns-else-self-clause-end c = search rules
