use Rattle.std.proofs.Common.{◌+◌, ◌^◌, ◌≤◌, ℕ, List}
use Rattle.wsn_rules.specs.LeftOut.{events_without}
use Rattle.wsn_rules.specs.Meaning.{MeantEvent}
use Rattle.wsn_events.specs.Excerpts.{index_in}
use Rattle.wsn_events.proofs.ComparedSources.{HasFollowed}
use Rattle.wsn_events.proofs.ComparedRounds.{IsDifferenceSoFar, pending}
use Rattle.wsn_events.proofs.KeptExcerpts.{AreKept}
use Rattle.wsn_events.proofs.comparing.contrast.Given as goal

-- The bytes that came of both streams, the events given, and the first difference of what is left of them, if there is
-- one so far.
abbrev pub invariant-loop-lent : goal.invariant-loop-lent
invariant-loop-lent g l = record {
  came : List ℕ;
  given : List MeantEvent;
  followed : HasFollowed l.fn.role l.fn.limits l.fn.first l.first l.events came given;
  other_came : List ℕ;
  other_given : List MeantEvent;
  other_followed : HasFollowed l.fn.role l.fn.limits l.fn.second l.second l.others other_came other_given;
  difference : IsDifferenceSoFar l.events l.others l.index (events_without l.without given) (events_without l.without other_given) (index_in l.difference);
  kept : AreKept l.without l.fn.role l.fn.limits l.events came given l.others other_came other_given l.difference;
  rounds : l.index + (pending l.events + pending l.others) ≤ 2 ^ 50;
}

abbrev pub decreases-loop-lent : goal.decreases-loop-lent
decreases-loop-lent g l = pending l.events + pending l.others
