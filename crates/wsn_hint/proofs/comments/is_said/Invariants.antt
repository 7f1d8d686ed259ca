use Rattle.std.proofs.Common.{length}
use Rattle.wsn_hint.specs.Comments.{IsSaid}
use Rattle.wsn_hint.proofs.comments.is_said.Given as goal

-- What the rest says, the text says, and the other way round.
abbrev pub invariant-loop-rest : goal.invariant-loop-rest
invariant-loop-rest l = (IsSaid l.said l.rest → IsSaid l.said l.text) × (IsSaid l.said l.text → IsSaid l.said l.rest)

abbrev pub decreases-loop-rest : goal.decreases-loop-rest
decreases-loop-rest l = length l.rest
