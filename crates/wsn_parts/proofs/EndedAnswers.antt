-- The answer where the stream has its verdict and no event has begun at the offset.
use Rattle.std.proofs.Common.{◌≡◌, ℕ, ◌+◌, ◌<◌, ◌≤◌, ◌⊎◌, Bool, true, false, Option, None, Some, List, length, inl, inr, refl, sym, ap, ◌∙◌, arith, ltb-true, ltb-false, leb-true, leb-false}
use Rattle.std.proofs.lemmas.Bool.{cond-false}
use Rattle.std.proofs.lemmas.List.{length-take-le, length-take}
use Rattle.wsn_wire.specs.declared.endpoint.Role.{Role}
use Rattle.wsn_wire.specs.Frame.{Frame, stream}
use Rattle.wsn_rules.specs.declared.verdict.Summary.{Summary}
use Rattle.wsn_rules.specs.declared.verdict.Verdict.{Verdict}
use Rattle.wsn_rules.specs.declared.verdict.Verdict.TheVariants.{Accepted, Cut, Refused}
use Rattle.wsn_rules.specs.AfterClose.{HasNoClose, EndsWithClose}
use Rattle.wsn_rules.specs.Limits.{Limits}
use Rattle.wsn_rules.specs.Verdict.{IsVerdict, judged_bytes}
use Rattle.wsn_rules.proofs.StaysRefused.{place_within}
use Rattle.wsn_scan.specs.Positions.{Position, BetweenFrames, InFrame}
use Rattle.wsn_parts.specs.declared.answer.Payload.{Payload}
use Rattle.wsn_parts.specs.declared.answer.Payload.TheVariants.{Unfinished, Head, Nothing}
use Rattle.wsn_parts.specs.declared.event_at.EventAt.{EventAt}
use Rattle.wsn_parts.specs.EventsAt.{EndBefore, AreApart, EndsBefore, IsInHeadAt, IsAfterAll}
use Rattle.wsn_parts.specs.Following.{next_at, KeepsEventAt, is_judged, answer_without_event, ended_answer}

-- The offset is in the next frame's head, or it isn't.
pub data IsAnswered (kept : EventAt) (v : Verdict) (answer : Payload) : Type 0 where
  InHead : (start : ℕ) → kept.next ≡ Some start → is_judged v kept.at ≡ true → answer ≡ Head start v → IsAnswered kept v answer
  AfterAll : (kept.next ≡ None) ⊎ (is_judged v kept.at ≡ false) → answer ≡ Nothing v → IsAnswered kept v answer

pub answered_without : (kept : EventAt) (v : Verdict) (answer : Payload) → answer ≡ ended_answer kept v → kept.begun ≡ false → IsAnswered kept v answer
answered_without kept v answer is none = by kept.next (is_judged v kept.at) refl refl
  where
    is_then : answer ≡ answer_without_event kept.next (is_judged v kept.at) v
    is_then = is ∙ cond-false kept.begun (Unfinished v) (answer_without_event kept.next (is_judged v kept.at) v) none

    at_both : (next : Option ℕ) (judged : Bool) → kept.next ≡ next → is_judged v kept.at ≡ judged → answer ≡ answer_without_event next judged v
    at_both next judged n j = is_then ∙ (λ i. answer_without_event (n i) (j i) v)

    by : (next : Option ℕ) (judged : Bool) → kept.next ≡ next → is_judged v kept.at ≡ judged → IsAnswered kept v answer
    by (Some start) true n j = InHead start n j (at_both (Some start) true n j)
    by (Some start) false n j = AfterAll (inr j) (at_both (Some start) false n j)
    by None true n j = AfterAll (inl n) (at_both None true n j)
    by None false n j = AfterAll (inl n) (at_both None false n j)

module _ (role : Role) (limits : Limits) (bytes : List ℕ) (fs : List Frame) (at : ℕ) where
  -- A byte after the frames of which the verdict takes account: there is no Close, and the byte came.
  judged_after : (v : Verdict) → IsVerdict role limits bytes fs v → length (stream fs) ≤ at → is_judged v at ≡ true → HasNoClose fs × (at < length (judged_bytes v bytes))
  judged_after (Accepted s) is after judged =
      let used : s.used ≡ length (stream fs) = ap (λ (t : Summary). t.used) is.1 in
      absurd (omega (arith, used, after, ltb-true at s.used judged))
  judged_after (Cut s) is after judged =
      let used : s.used ≡ length bytes = ap (λ (t : Summary). t.used) is.1 in
      (is.0.no_close, omega (arith, used, ltb-true at s.used judged))
  judged_after (Refused r) is after judged =
      let size = length-take-le (r.offset + 1) bytes (place_within role limits fs bytes r.offset r.reason is.is_evident) in
      (is.no_close, omega (arith, size, leb-true at r.offset judged))

  -- One that it doesn't: after a Close, or after all that came.
  not_judged : (v : Verdict) → IsVerdict role limits bytes fs v → length (stream fs) ≤ at → is_judged v at ≡ false → EndsWithClose fs ⊎ (length (judged_bytes v bytes) ≤ at)
  not_judged (Accepted s) is after judged =
      elim is.0.ends [
        | inl whole ↦ inr (let size = ap (λ (bs : List ℕ). length bs) whole.2 in omega (arith, size, after))
        | inr closed ↦ inl closed.0
      ]
  not_judged (Cut s) is after judged =
      let used : s.used ≡ length bytes = ap (λ (t : Summary). t.used) is.1 in
      inr (omega (arith, used, ltb-false at s.used judged))
  not_judged (Refused r) is after judged =
      let size = length-take-le (r.offset + 1) bytes (place_within role limits fs bytes r.offset r.reason is.is_evident) in
      inr (omega (arith, size, leb-false at r.offset judged))

  module _ (kept : EventAt) (position : Position) (payload : List ℕ) (k : KeepsEventAt kept at fs position payload) (v : Verdict) (a : AreApart role limits bytes v fs position) (end : EndBefore fs position at) where
    abbrev ends : EndsBefore role limits bytes v at
    ends = record { frames = fs; position = position; are_apart = a; end = end }

    between_at : (p : Position) (start : ℕ) → next_at fs p ≡ Some start → p ≡ BetweenFrames
    between_at BetweenFrames start is = refl
    between_at (InFrame info part) start is = cc

    within_at : (p : Position) → next_at fs p ≡ None → p ≡ BetweenFrames → ⊥
    within_at BetweenFrames is between = cc
    within_at (InFrame info part) is between = cc

    after_frames : (p : Position) → p ≡ BetweenFrames → EndBefore fs p at → length (stream fs) ≤ at
    after_frames BetweenFrames between before = before
    after_frames (InFrame info part) between before = cc

    pub in_head : (start : ℕ) → kept.next ≡ Some start → is_judged v kept.at ≡ true → IsInHeadAt role limits bytes v at start
    in_head start next judged = record {
      ends = ends;
      between = between;
      no_close = there.0;
      begins = begins position (sym k.next ∙ next) between;
      reached = there.1;
    }
      where
        between : position ≡ BetweenFrames
        between = between_at position start (sym k.next ∙ next)

        there : HasNoClose fs × (at < length (judged_bytes v bytes))
        there = judged_after v a.is_verdict (after_frames position between end) (sym (ap (is_judged v) k.sought) ∙ judged)

        begins : (p : Position) → next_at fs p ≡ Some start → p ≡ BetweenFrames → start ≡ length (stream fs)
        begins BetweenFrames is b = cc
        begins (InFrame info part) is b = cc

    pub after_all : (kept.next ≡ None) ⊎ (is_judged v kept.at ≡ false) → IsAfterAll role limits bytes v at
    after_all why = record { ends = ends; no_head = by why }
      where
        by : (kept.next ≡ None) ⊎ (is_judged v kept.at ≡ false) → position ≡ BetweenFrames → EndsWithClose fs ⊎ (length (judged_bytes v bytes) ≤ at)
        by (inl next) between = absurd (within_at position (sym k.next ∙ next) between)
        by (inr judged) between = not_judged v a.is_verdict (after_frames position between end) (sym (ap (is_judged v) k.sought) ∙ judged)
