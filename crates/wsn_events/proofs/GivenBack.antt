-- A comparison goes on as before when its sources have got room back.
use Rattle.std.proofs.Common.{◌≡◌, ℕ, Option, Result, List, inl, inr, ap, ◌∙◌, arith}
use Rattle.wsn_wire.specs.declared.endpoint.Role.{Role}
use Rattle.wsn_io.specs.Transfer.{Incoming}
use Rattle.wsn_io.specs.declared.stop.Stop.{Stop}
use Rattle.wsn_rules.specs.declared.verdict.Verdict.{Verdict}
use Rattle.wsn_rules.specs.declared.without.Without.{Without}
use Rattle.wsn_rules.specs.Limits.{Limits}
use Rattle.wsn_rules.specs.Meaning.{MeantEvent}
use Rattle.wsn_events.specs.declared.excerpt.Excerpt.{Excerpt}
use Rattle.wsn_events.specs.declared.first_difference.FirstDifference.{FirstDifference}
use Rattle.wsn_events.specs.SourceStates.{SourceState, IsAsBefore, answered, events_ahead}
use Rattle.wsn_events.proofs.ComparedSources.{HasFollowed}
use Rattle.wsn_events.proofs.ComparedRounds.{IsDifferenceSoFar, pending, rounds_ahead}
use Rattle.wsn_events.proofs.KeptExcerpts.{AreKept}
use Rattle.wsn_events.proofs.StandingEvents.{Stands}

-- ---- one source

module _ {A : Type 0} (old new : SourceState A) (same : IsAsBefore old new) where
  pub same_pending : pending new ≡ pending old
  same_pending = ap (λ (a : Option (Result Verdict Stop)). rounds_ahead a (events_ahead new)) same.answer ∙ ap (λ (n : ℕ). rounds_ahead (answered old) n) same.left

  pub followed_back : (role : Role) (limits : Limits) (first now : Incoming) (came : List ℕ) (given : List MeantEvent) → HasFollowed role limits first now old came given → HasFollowed role limits first now new came given
  followed_back role limits first now came given followed = record {
    received = followed.received;
    state = elim followed.state [
      | inl going ↦ inl (same.given role limits came given going.0, going.1)
      | inr done ↦ inr (done.0, (same.answer ∙ done.1.0, done.1.1))
    ];
  }

  stands_back : (without : Without) (role : Role) (limits : Limits) (came : List ℕ) (events : List MeantEvent) (k : ℕ) (excerpt : Option Excerpt) (event : Option MeantEvent) → Stands without role limits old came events k excerpt event → Stands without role limits new came events k excerpt event
  stands_back without role limits came events k excerpt event stands = grind arith

-- ---- both sources

module _ {A : Type 0} (old new other_old other_new : SourceState A) (same : IsAsBefore old new) (other_same : IsAsBefore other_old other_new) where
  pub difference_back : (index : ℕ) (events others : List MeantEvent) (difference : Option ℕ) → IsDifferenceSoFar old other_old index events others difference → IsDifferenceSoFar new other_new index events others difference
  difference_back index events others difference so_far = grind arith

  pub kept_back : (without : Without) (role : Role) (limits : Limits) (came : List ℕ) (events : List MeantEvent) (other_came : List ℕ) (others : List MeantEvent) (difference : Option FirstDifference)
      → AreKept without role limits old came events other_old other_came others difference → AreKept without role limits new came events other_new other_came others difference
  kept_back without role limits came events other_came others difference kept = grind (arith, stands_back)
