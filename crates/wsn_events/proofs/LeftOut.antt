-- What is left of events as they come, if controls of some kinds are left out.
use Rattle.std.proofs.Common.{◌≡◌, Bool, true, false, cond, not, List, [], ◌∷◌, ◌++◌, refl, ap, ◌∙◌, append-nil, arith}
use Rattle.std.proofs.lemmas.List.Elements.{filter-append}
use Rattle.wsn_rules.specs.declared.without.Without.{Without}
use Rattle.wsn_rules.specs.LeftOut.{is_left_out, events_without}
use Rattle.wsn_rules.specs.Meaning.{MeantEvent}

-- no kind
abbrev pub nothing : Without
nothing = record { ping = false; pong = false; close = false }

kept : (e : MeantEvent) → is_left_out nothing e ≡ false
kept e = grind arith

pub nothing_left_out : (events : List MeantEvent) → events_without nothing events ≡ events
nothing_left_out [] = refl
nothing_left_out (e ∷ events) =
    ap (λ (b : Bool). cond (not b) (e ∷ events_without nothing events) (events_without nothing events)) (kept e)
    ∙ ap (λ (es : List MeantEvent). e ∷ es) (nothing_left_out events)

module _ (without : Without) where
  without-append : (events more : List MeantEvent) → events_without without (events ++ more) ≡ events_without without events ++ events_without without more
  without-append events more = filter-append (λ event. not (is_left_out without event)) events more

  -- one event more, which is left out
  pub passed_on : (passed : List MeantEvent) (event : MeantEvent) → events_without without passed ≡ [] → is_left_out without event ≡ true → events_without without (passed ++ event ∷ []) ≡ []
  passed_on passed event none out = grind (arith, without-append)

  -- after events that are left out
  pub passed_over : (given passed : List MeantEvent) → events_without without passed ≡ [] → events_without without (given ++ passed) ≡ events_without without given
  passed_over given passed none = grind (arith, without-append, append-nil)

  -- and one that isn't
  pub one_more : (given passed : List MeantEvent) (event : MeantEvent) → events_without without passed ≡ [] → is_left_out without event ≡ false
      → events_without without ((given ++ passed) ++ event ∷ []) ≡ events_without without given ++ event ∷ []
  one_more given passed event none kept = grind (arith, kept, without-append, passed_over)
