use Rattle.std.proofs.Common.{◌≤◌, ◌<◌, ◌^◌, map, take}
use Rattle.wsn_plan.specs.Gathering.{kept_meant}
use Rattle.wsn_plan.specs.Walking.{IsPlaced}
use Rattle.wsn_plan.proofs.WalkedSteps.{Follows}
use Rattle.wsn_plan.proofs.checking.fault_of.Given as goal

-- The steps so far begin to fit, and the walk has followed them.
abbrev pub invariant-loop-index : goal.invariant-loop-index
invariant-loop-index g l = record {
  placed : IsPlaced l.walk (map kept_meant l.events);
  follows : Follows l.role l.limits (map kept_meant l.events) (take l.index l.steps) l.walk;
  few : l.walk.pieces ≤ l.index;
  small : l.walk.held < 2 ^ 64;
}
