use Rattle.std.proofs.Common.{◌≡◌, length}
use Rattle.wsn_scan.specs.ChunkReaders.{chunks_ahead}
use Rattle.wsn_scan.specs.Judging.{chunk_size}
use Rattle.wsn_plan.proofs.PlannedFrames.{HasPlanned}
use Rattle.wsn_plan.proofs.planning.plan_of.Given as goal

-- the scan has consumed all that came and not refused, and the plan is that of the frames that it has taken
abbrev pub invariant-loop-plan : goal.invariant-loop-plan
invariant-loop-plan g l = record { planned : HasPlanned l.fn.role l.fn.limits l.fn.input l.input l.chunks l.scan l.plan; size : length l.buffer ≡ chunk_size }

abbrev pub decreases-loop-plan : goal.decreases-loop-plan
decreases-loop-plan g l = chunks_ahead l.chunks
