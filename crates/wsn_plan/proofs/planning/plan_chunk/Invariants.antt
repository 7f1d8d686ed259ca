use Rattle.std.proofs.Common.{◌-◌, length}
use Rattle.wsn_plan.proofs.PlannedChunks.{IsPlannedTo}
use Rattle.wsn_plan.proofs.planning.plan_chunk.Given as goal

-- The scan has consumed the chunk so far, the plan has the steps of the frames that it took, and the rest of the chunk
-- is unchanged.
abbrev pub invariant-loop-at : goal.invariant-loop-at
invariant-loop-at g l = IsPlannedTo l.fn.scan l.scan l.fn.chunk l.chunk l.fn.plan l.plan l.at

abbrev pub decreases-loop-at : goal.decreases-loop-at
decreases-loop-at g l = length l.initial.chunk - l.at
