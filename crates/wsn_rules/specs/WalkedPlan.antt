-- A plan that is carried out step by step: the state after its steps so far. RFC 6455 section 5.4.
use Rattle.std.specs.Prelude.{◌≡◌, ℕ, List, length}
use Rattle.wsn_wire.specs.declared.endpoint.Role.{Role}
use Rattle.wsn_rules.specs.declared.step.Step.{Step}
use Rattle.wsn_rules.specs.Limits.{Limits}
use Rattle.wsn_rules.specs.Meaning.{MeantEvent}
use Rattle.wsn_rules.specs.Plan as plans
use Rattle.wsn_rules.specs.Fitting.{BeginsToFit}

-- The plan begins to fit: `count` Pieces of the next message are pending, which contain `held` of its bytes, and the
-- events `left` have no end yet.
pub record HasWalked (role : Role) (limits : Limits) (events : List MeantEvent) (plan : List Step)
    (count held : ℕ) (left : List MeantEvent) : Type 0 where
  pub begins : BeginsToFit role limits plan events
  pub counted : count ≡ length (plans.pending plan)
  pub summed : held ≡ plans.total (plans.pending plan)
  pub remaining : left ≡ plans.events_left events plan
