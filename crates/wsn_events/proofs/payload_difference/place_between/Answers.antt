use Rattle.std.proofs.Common.{rules}
use Rattle.wsn_events.proofs.payload_difference.place_between.Goals as goal

pub returns-then-place-bytes : goal.returns-then-place-bytes
returns-then-place-bytes c = record { is = search rules; within = search rules }

pub returns-then-place-others : goal.returns-then-place-others
returns-then-place-others c = record { is = search rules; within = search rules }

pub returns-clause-is : goal.returns-clause-is
returns-clause-is c = search rules
