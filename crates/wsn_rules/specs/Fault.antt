-- The fault of a plan that doesn't fit: the first step, from 0, with which it doesn't begin to fit, and the reason.
use Rattle.std.specs.Prelude.{◌≡◌, ℕ, ◌+◌, ◌-◌, ◌<◌, ◌≤◌, None, Some, List, [], ◌∷◌, ◌++◌, length, codes}
use Rattle.wsn_wire.specs.declared.endpoint.Role.{Role}
use Rattle.wsn_wire.specs.declared.opcode.Kind.{Kind}
use Rattle.wsn_wire.specs.declared.opcode.Op.{Op}
use Rattle.wsn_rules.specs.declared.step.Step.{Step, TheVariants.{Piece, Last, Control}}
use Rattle.wsn_rules.specs.declared.why.Why.{Why, TheVariants.{KeyMismatch, StepsLeft, NoMessage, PieceTooLong, TooManyPieces, NotAControl, NotAMessage, WrongForm, EventsLeft}}
use Rattle.wsn_rules.specs.Limits.{Limits}
use Rattle.wsn_rules.specs.Meaning.{MeantEvent}
use Rattle.wsn_rules.specs.Meaning as meant
use Rattle.wsn_rules.specs.Plan.{pending, total, events_left, next_text}
use Rattle.wsn_rules.specs.Fitting.{HasKeyOf, IsAllowedForm, BeginsToFit}

-- The word that is printed for a reason.
abbrev pub why_word : Why → List ℕ
why_word KeyMismatch = codes "key-mismatch"
why_word StepsLeft = codes "steps-left"
why_word NoMessage = codes "no-message"
why_word PieceTooLong = codes "piece-too-long"
why_word TooManyPieces = codes "too-many-pieces"
why_word NotAControl = codes "not-a-control"
why_word NotAMessage = codes "not-a-message"
why_word WrongForm = codes "wrong-form"
why_word EventsLeft = codes "events-left"

-- The reasons in order of precedence.
abbrev pub order_of : Why → ℕ
order_of KeyMismatch = 0
order_of StepsLeft = 1
order_of NoMessage = 2
order_of PieceTooLong = 3
order_of TooManyPieces = 4
order_of NotAControl = 5
order_of NotAMessage = 6
order_of WrongForm = 7
order_of EventsLeft = 8

-- ---- the table of reasons: for a step after `count` Pieces of the next message, which contain `held` of its bytes,
-- where the events `left` have no end yet

-- The step is a Piece or a Last.
abbrev pub IsOfMessage : Step → Type 0
IsOfMessage (Control key) = ⊥
IsOfMessage step = Unit {0}

-- The first event is a message.
abbrev pub BeginsWithMessage : List MeantEvent → Type 0
BeginsWithMessage left =
    (kind : Kind) × (text : List ℕ) × (later : List MeantEvent) × (left ≡ meant.Message kind text ∷ later)

-- The first event is a control.
abbrev pub BeginsWithControl : List MeantEvent → Type 0
BeginsWithControl left =
    (op : Op) × (body : List ℕ) × (later : List MeantEvent) × (left ≡ meant.Control op body ∷ later)

-- The piece is longer than the rest of the next message.
abbrev pub IsTooLong : ℕ → List MeantEvent → Step → Type 0
IsTooLong held left (Piece len key form) = (text : List ℕ) × (next_text left ≡ Some text) × (length text < held + len)
IsTooLong held left step = ⊥

-- The message already has all the Pieces that the limit on frames allows.
abbrev pub IsOneTooMany : Limits → ℕ → Step → Type 0
IsOneTooMany limits count (Piece len key form) = (most : ℕ) × (limits.frames ≡ Some most) × (most ≤ count + 1)
IsOneTooMany limits count step = ⊥

-- The length of the frame may not be encoded in the step's form.
abbrev pub HasWrongForm : Limits → ℕ → List MeantEvent → Step → Type 0
HasWrongForm limits held left (Piece len key form) = ¬ (IsAllowedForm limits.lengths form len)
HasWrongForm limits held left (Last key form) =
    (text : List ℕ) × (next_text left ≡ Some text) × ¬ (IsAllowedForm limits.lengths form (length text - held))
HasWrongForm limits held left (Control key) = ⊥

-- The reason holds for the step.
abbrev pub Holds : Role → Limits → ℕ → ℕ → List MeantEvent → Step → Why → Type 0
Holds role limits count held left step KeyMismatch = ¬ (HasKeyOf role step)
Holds role limits count held left step StepsLeft = left ≡ []
Holds role limits count held left step NoMessage = IsOfMessage step × (next_text left ≡ None)
Holds role limits count held left step PieceTooLong = IsTooLong held left step
Holds role limits count held left step TooManyPieces = IsOneTooMany limits count step
Holds role limits count held left (Control key) NotAControl = BeginsWithMessage left
Holds role limits count held left step NotAControl = ⊥
Holds role limits count held left (Last key form) NotAMessage = BeginsWithControl left
Holds role limits count held left step NotAMessage = ⊥
Holds role limits count held left step WrongForm = HasWrongForm limits held left step
Holds role limits count held left step EventsLeft = ⊥

-- The reason holds for a step after the steps `before`.
abbrev pub HoldsAfter : Role → Limits → List Step → List MeantEvent → Step → Why → Type 0
HoldsAfter role limits before events step why =
    Holds role limits (length (pending before)) (total (pending before)) (events_left events before) step why

-- Of the reasons that hold, this one is the first.
pub record IsFirstWhy (HoldsHere : Why → Type 0) (why : Why) : Type 0 where
  pub holds : HoldsHere why
  pub first : (other : Why) → HoldsHere other → order_of why ≤ order_of other

-- ---- the fault

-- The longest prefix of the plan that begins to fit, and the rest of the plan.
pub record IsLongestFitting (role : Role) (limits : Limits) (plan : List Step) (events : List MeantEvent)
    (fitting rest : List Step) : Type 0 where
  pub whole : plan ≡ fitting ++ rest
  pub begins : BeginsToFit role limits fitting events
  pub longest : (others later : List Step) → plan ≡ others ++ later → BeginsToFit role limits others events
      → length others ≤ length fitting

-- The reason after that prefix: it holds for the next step; or there is no next step, and events are left.
abbrev pub IsWhy : Role → Limits → List MeantEvent → List Step → List Step → Why → Type 0
IsWhy role limits events fitting [] why = (why ≡ EventsLeft) × ¬ (events_left events fitting ≡ [])
IsWhy role limits events fitting (step ∷ rest) why = IsFirstWhy (HoldsAfter role limits fitting events step) why

-- The plan's fault is this step, for this reason.
pub record IsFault (role : Role) (limits : Limits) (plan : List Step) (events : List MeantEvent)
    (step : ℕ) (why : Why) : Type 0 where
  pub fitting : List Step
  pub rest : List Step
  pub longest : IsLongestFitting role limits plan events fitting rest
  pub at : step ≡ length fitting
  pub is_why : IsWhy role limits events fitting rest why
