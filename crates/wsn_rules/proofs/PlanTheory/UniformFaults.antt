-- A uniform plan is a plan; if the frames of a message are limited, its only fault is too many Pieces.
use Rattle.std.proofs.Common.{◌≡◌, ℕ, zero, suc, ◌⊎◌, ◌↔◌, ◌∷◌, ◌++◌, [], Bool, List, Option, None, IsSome, IfSome, length, take, drop, replicate, refl, sym, ap, ◌∙◌, subst, inl, inr, append-nil}
use Rattle.wsn_wire.specs.declared.endpoint.Role.{Role}
use Rattle.wsn_wire.specs.declared.endpoint.Role.TheVariants.{Client}
use Rattle.wsn_wire.specs.declared.length_encoding.Form.TheVariants.{Shortest}
use Rattle.wsn_wire.specs.Frame.{IsKey}
use Rattle.wsn_rules.specs.declared.step.Step.{Step}
use Rattle.wsn_rules.specs.declared.step.Step.TheVariants.{Piece, Last, Control}
use Rattle.wsn_rules.specs.declared.why.Why.{Why}
use Rattle.wsn_rules.specs.declared.why.Why.TheVariants.{KeyMismatch, StepsLeft, NoMessage, PieceTooLong, TooManyPieces, NotAControl, NotAMessage, WrongForm, EventsLeft}
use Rattle.wsn_rules.specs.Limits.{Limits, InRange}
use Rattle.wsn_rules.specs.Meaning.{MeantEvent}
use Rattle.wsn_rules.specs.Meaning as meant
use Rattle.wsn_rules.specs.Plan.{IsPlan, pending, total, events_left}
use Rattle.wsn_rules.specs.Fitting.{BeginsToFit, Fits}
use Rattle.wsn_rules.specs.Fault.{Holds, IsWhy, IsFault}
use Rattle.wsn_rules.specs.UniformPlan.{piece_count, ahead, uniform_pieces, uniform_after, uniform_plan}
use Rattle.wsn_rules.proofs.Prefixes.{push-append}
use Rattle.wsn_rules.proofs.PlanTheory.FitsFromTheFront.{begins_prefix}
use Rattle.wsn_rules.proofs.PlanTheory.Walked.{stops}
use Rattle.wsn_rules.proofs.PlanTheory.Faults.{fits_or_fault}
use Rattle.wsn_rules.proofs.PlanTheory.UniformFits.{uniform_fits}

-- ---- it is a plan

all_keys_join : (plan more : List Step) → IsPlan plan → IsPlan more → IsPlan (plan ++ more)
all_keys_join [] more all rest = rest
all_keys_join (step ∷ plan) more all rest = (all.0, all_keys_join plan more all.1 rest)

all_keys_take : (n : ℕ) (plan : List Step) → IsPlan plan → IsPlan (take n plan)
all_keys_take zero plan all = tt
all_keys_take (suc n) [] all = tt
all_keys_take (suc n) (step ∷ plan) all = (all.0, all_keys_take n plan all.1)

all_keys_drop : (n : ℕ) (plan : List Step) → IsPlan plan → IsPlan (drop n plan)
all_keys_drop zero plan all = all
all_keys_drop (suc n) [] all = tt
all_keys_drop (suc n) (step ∷ plan) all = all_keys_drop n plan all.1

module _ (size : ℕ) (weave : Bool) (key : Option (List ℕ)) (is_key : IfSome key IsKey) where
  pieces_have_keys : (n : ℕ) → IsPlan (replicate n (Piece size key Shortest))
  pieces_have_keys zero = tt
  pieces_have_keys (suc n) = (is_key, pieces_have_keys n)

  uniform_has_keys : (run : List Step) (events : List MeantEvent) → IsPlan run → IsPlan (uniform_after size weave key run events)
  uniform_has_keys run [] all = all
  uniform_has_keys run (meant.Control op body ∷ events) all = uniform_has_keys (run ++ Control key ∷ []) events (all_keys_join run (Control key ∷ []) all (is_key, tt))
  uniform_has_keys run (meant.Message kind text ∷ events) all =
      let pieces = uniform_pieces size key text in
      let have_keys = pieces_have_keys (piece_count size (length text)) in
      let later = uniform_has_keys [] events tt in
      let following = all_keys_join (drop (ahead weave) pieces) (Last key Shortest ∷ uniform_after size weave key [] events) (all_keys_drop (ahead weave) pieces have_keys) (is_key, later) in
      all_keys_join (take (ahead weave) pieces) (run ++ (drop (ahead weave) pieces ++ (Last key Shortest ∷ uniform_after size weave key [] events))) (all_keys_take (ahead weave) pieces have_keys)
      (all_keys_join run (drop (ahead weave) pieces ++ (Last key Shortest ∷ uniform_after size weave key [] events)) all following)

  pub uniform_is_plan : (events : List MeantEvent) → IsPlan (uniform_plan size weave key events)
  uniform_is_plan events = uniform_has_keys [] events tt

-- ---- with a limit on frames

-- The same limits, with any number of frames.
abbrev unbounded : Limits → Limits
unbounded limits = record limits { frames = None }

-- A reason other than the number of Pieces holds under both limits.
too_many_or_both : (role : Role) (limits : Limits) (count held : ℕ) (left : List MeantEvent) (step : Step) (why : Why)
    → (why ≡ TooManyPieces) ⊎ (Holds role limits count held left step why → Holds role (unbounded limits) count held left step why)
too_many_or_both role limits count held left step KeyMismatch = inr (λ holds. holds)
too_many_or_both role limits count held left step StepsLeft = inr (λ holds. holds)
too_many_or_both role limits count held left step NoMessage = inr (λ holds. holds)
too_many_or_both role limits count held left step PieceTooLong = inr (λ holds. holds)
too_many_or_both role limits count held left step TooManyPieces = inl refl
too_many_or_both role limits count held left (Piece len key form) NotAControl = inr (λ holds. holds)
too_many_or_both role limits count held left (Last key form) NotAControl = inr (λ holds. holds)
too_many_or_both role limits count held left (Control key) NotAControl = inr (λ holds. holds)
too_many_or_both role limits count held left (Piece len key form) NotAMessage = inr (λ holds. holds)
too_many_or_both role limits count held left (Last key form) NotAMessage = inr (λ holds. holds)
too_many_or_both role limits count held left (Control key) NotAMessage = inr (λ holds. holds)
too_many_or_both role limits count held left (Piece len key form) WrongForm = inr (λ holds. holds)
too_many_or_both role limits count held left (Last key form) WrongForm = inr (λ holds. holds)
too_many_or_both role limits count held left (Control key) WrongForm = inr (λ holds. holds)
too_many_or_both role limits count held left step EventsLeft = inr (λ holds. holds)

module _ (role : Role) (limits : Limits) (events : List MeantEvent) where
  -- The fault of a plan that fits with any number of frames.
  too_many : (plan fitting rest : List Step) (why : Why) → plan ≡ fitting ++ rest → Fits role (unbounded limits) plan events → IsWhy role limits events fitting rest why → why ≡ TooManyPieces
  too_many plan fitting [] why whole fits is = absurd (is.1 (ap (events_left events) (sym (whole ∙ append-nil fitting)) ∙ fits.all))
  too_many plan fitting (step ∷ rest) why whole fits is =
      elim (too_many_or_both role limits (length (pending fitting)) (total (pending fitting)) (events_left events fitting) step why) [
        | inl bounded ↦ bounded
        | inr both ↦
            let parts = whole ∙ sym (push-append fitting step rest) in
            let begins = begins_prefix role (unbounded limits) events (fitting ++ step ∷ []) rest (subst (λ (steps : List Step). BeginsToFit role (unbounded limits) steps events) parts fits.begins) in
            absurd (stops role (unbounded limits) events fitting step why begins (both is.holds))
      ]

  pub uniform_fault : (size : ℕ) (weave : Bool) (key : Option (List ℕ)) → IsSome key ↔ (role ≡ Client) → (at : ℕ) (why : Why)
      → IsFault role limits (uniform_plan size weave key events) events at why → why ≡ TooManyPieces
  uniform_fault size weave key keyed at why fault =
      too_many (uniform_plan size weave key events) fault.fitting fault.rest why fault.longest.whole (uniform_fits role (unbounded limits) size weave key refl keyed events) fault.is_why

  pub uniform_fits_or_too_many : (size : ℕ) (weave : Bool) (key : Option (List ℕ)) → InRange limits → IsSome key ↔ (role ≡ Client)
      → Fits role limits (uniform_plan size weave key events) events ⊎ ((step : ℕ) × IsFault role limits (uniform_plan size weave key events) events step TooManyPieces)
  uniform_fits_or_too_many size weave key range keyed =
      elim (fits_or_fault role limits events (uniform_plan size weave key events) range) [
        | inl fits ↦ inl fits
        | inr fault ↦ inr (fault.0, subst (IsFault role limits (uniform_plan size weave key events) events fault.0) (uniform_fault size weave key keyed fault.0 fault.1 fault.2) fault.2)
      ]
