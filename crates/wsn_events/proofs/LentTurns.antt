-- The turn of a source that may have lent a message just now.
use Rattle.std.proofs.Common.{◌≡◌, ℕ, ◌<◌, Option, None, Some, IfSome, IfNone, Result, Ok, List, [], ◌++◌, ◌+◌, ◌≤◌, length, false, refl, sym, ap, ◌∙◌, subst, append-nil, arith}
use Rattle.wsn_wire.specs.declared.endpoint.Role.{Role}
use Rattle.wsn_wire.specs.declared.opcode.Kind.{Kind}
use Rattle.wsn_io.specs.declared.stop.Stop.{Stop}
use Rattle.wsn_io.specs.Transfer.{Incoming}
use Rattle.wsn_io.proofs.Received.{consumed_none}
use Rattle.wsn_rules.specs.declared.without.Without.{Without}
use Rattle.wsn_rules.specs.Limits.{Limits}
use Rattle.wsn_rules.specs.Meaning.{MeantEvent}
use Rattle.wsn_events.specs.declared.turn.Turn.{Turn}
use Rattle.wsn_events.specs.declared.turn.Turn.TheVariants.{Lent}
use Rattle.wsn_events.specs.SourceStates.{SourceState, HasGiven, HasBegunOrEnded, IsAtWork, answered, events_ahead}
use Rattle.wsn_events.specs.LeavingOut.{ReadsTurn}
use Rattle.wsn_events.specs.LentMessages.{LendsMessage, MayLend}
use Rattle.wsn_events.proofs.GivenSoFar.{begun_sound}

module _ {A : Type 0} (before mid : SourceState A) (lent : Option Kind) (may : MayLend before mid lent) where
  same : lent ≡ None → mid ≡ before
  same is = subst (λ (l : Option Kind). IfNone l (mid ≡ before)) is may.none

  going : (kind : Kind) → lent ≡ Some kind → answered before ≡ None
  going kind is = subst (λ (l : Option Kind). IfSome l (λ k. answered before ≡ None)) is may.going

  lends : (kind : Kind) → lent ≡ Some kind → (role : Role) (limits : Limits) (came : List ℕ) (given : List MeantEvent) → HasGiven role limits before came given → LendsMessage role limits mid came given kind
  lends kind is = grind arith

  -- the source can be read on
  pub after_begun : HasBegunOrEnded before → HasBegunOrEnded mid
  after_begun begun none = by lent refl
    where
      by : (l : Option Kind) → lent ≡ l → IsAtWork mid
      by (Some kind) is =
          let b = begun (going kind is) in
          begun_sound b.role b.limits mid b.came _ (lends kind is b.role b.limits b.came b.given b.has).has
      by None is = subst IsAtWork (sym (same is)) (begun (ap answered (sym (same is)) ∙ none))

  module _ (without : Without) (old : Incoming) (readable : answered before ≡ None → old.failed ≡ false) where
    pub after_readable : answered mid ≡ None → old.failed ≡ false
    after_readable none = grind (arith, going, same)

    -- a message that it lends is its turn
    pub lent_reads : (kind : Kind) → lent ≡ Some kind → ReadsTurn without old old before mid (Ok (Lent kind))
    lent_reads kind is = record {
      next = λ role limits came given has.
          let one = lends kind is role limits came given has in
          record {
            passed = [];
            left_out = refl;
            takes = record {
              more = [];
              consumed = consumed_none old;
              few = subst (λ (bs : List ℕ). length bs ≤ limits.input + 1) (sym (append-nil came)) has.has_taken.buffered.few;
              next = (
                subst (λ (bs : List ℕ). LendsMessage role limits mid bs (given ++ []) kind) (sym (append-nil came)) (subst (λ (es : List MeantEvent). LendsMessage role limits mid came es kind) (sym (append-nil given)) one),
                readable (going kind is),
              );
            };
          };
      not_left_out = refl;
      falls = λ _. subst (λ (l : Option Kind). IfSome l (λ k. events_ahead mid < events_ahead before)) is may.falls;
      again = λ answer was. let both : Some answer ≡ None = sym was ∙ going kind is in absurd cc;
    }

    -- the turn: that message, or what it reads on to
    pub turn_reads : (new : Incoming) (reading : SourceState A) (result : Result (Turn A) Stop) → IfSome lent (λ kind. (result ≡ Ok (Lent kind)) × (reading ≡ mid) × (new ≡ old)) → IfNone lent (ReadsTurn without old new mid reading result)
        → ReadsTurn without old new before reading result
    turn_reads new reading result on own = grind (arith, lent_reads, same)
