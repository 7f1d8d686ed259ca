use Rattle.std.proofs.Common.{◌≡◌, ◌≤◌, ◌<◌, ◌^◌, map, take}
use Rattle.wsn_io.specs.Transfer.{IsWritten}
use Rattle.wsn_rules.specs.Recut.{recut_bytes}
use Rattle.wsn_plan.specs.Gathering.{kept_meant}
use Rattle.wsn_plan.specs.Walking.{IsPlaced}
use Rattle.wsn_plan.proofs.RecutSoFar.{IsUnderWay}
use Rattle.wsn_plan.proofs.recutting.put_steps.Given as goal

-- The frames of the steps so far were written, and the events mean what they kept_meant.
abbrev pub invariant-loop-step : goal.invariant-loop-step
invariant-loop-step g l = record {
  same : map kept_meant l.events ≡ map kept_meant l.fn.events;
  placed : IsPlaced l.walk (map kept_meant l.events);
  way : IsUnderWay (map kept_meant l.fn.events) l.steps l.step-index l.walk;
  few : l.walk.pieces ≤ l.step-index;
  small : l.walk.held < 2 ^ 64;
  written : IsWritten l.fn.output l.output (recut_bytes (take l.step-index l.steps) (map kept_meant l.fn.events));
}
