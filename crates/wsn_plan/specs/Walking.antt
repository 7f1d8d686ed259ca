-- The state of a walk that follows a plan over events, and the reasons against the plan's next step.
use Rattle.std.specs.Prelude.{◌≡◌, ℕ, ◌+◌, ◌≤◌, Option, None, Some, List, [], ◌∷◌, length, drop}
use Rattle.wsn_wire.specs.declared.endpoint.Role.{Role}
use Rattle.wsn_rules.specs.declared.step.Step.{Step, TheVariants.{Piece, Last, Control}}
use Rattle.wsn_rules.specs.declared.why.Why.{Why}
use Rattle.wsn_rules.specs.Limits.{Limits}
use Rattle.wsn_rules.specs.Meaning.{MeantEvent}
use Rattle.wsn_rules.specs.Meaning as meant
use Rattle.wsn_rules.specs.Plan.{next_text}
use Rattle.wsn_rules.specs.Fault.{BeginsWithMessage, BeginsWithControl, Holds, IsFirstWhy}
use Rattle.wsn_plan.specs.declared.walking.Walk.{Walk}

-- the events from the first message on
abbrev pub from_message : List MeantEvent → List MeantEvent
from_message [] = []
from_message (meant.Message kind text ∷ later) = meant.Message kind text ∷ later
from_message (meant.Control op body ∷ later) = from_message later

-- The event is a control.
abbrev pub IsControl : MeantEvent → Type 0
IsControl event = (op : _) × (body : List ℕ) × (event ≡ meant.Control op body)

-- The event is a message of this many bytes.
abbrev pub IsMessageOf : MeantEvent → ℕ → Type 0
IsMessageOf event len = (kind : _) × (text : List ℕ) × (event ≡ meant.Message kind text) × (len ≡ length text)

-- The walk's indexes are among the events, and the message's is that of the first message left.
pub record IsPlaced (walk : Walk) (events : List MeantEvent) : Type 0 where
  pub event : walk.event ≤ length events
  pub message : walk.message ≤ length events
  pub first : drop walk.message events ≡ from_message (drop walk.event events)

-- The first reason that holds; none if none holds.
abbrev pub IsFirstAgainst : (Why → Type 0) → Option Why → Type 0
IsFirstAgainst Held None = (why : Why) → ¬ (Held why)
IsFirstAgainst Held (Some why) = IsFirstWhy Held why

-- The reason is against the next step.
abbrev pub IsAgainst : Role → Limits → Walk → List MeantEvent → Step → Why → Type 0
IsAgainst role limits walk events step = Holds role limits walk.pieces walk.held (drop walk.event events) step

-- The step may come here: a Piece for bytes of the next message, any other step for the next event.
abbrev pub IsApplicable : Walk → List MeantEvent → Step → Type 0
IsApplicable walk events (Piece len key form) =
    (text : List ℕ) × (next_text (drop walk.event events) ≡ Some text) × (walk.held + len ≤ length text)
IsApplicable walk events (Last key form) = BeginsWithMessage (drop walk.event events)
IsApplicable walk events (Control key) = BeginsWithControl (drop walk.event events)

-- ---- after a step

-- how many Pieces of the next message there were, after this step
abbrev pub pieces_after : ℕ → Step → ℕ
pieces_after pieces (Piece len key form) = pieces + 1
pieces_after pieces (Last key form) = 0
pieces_after pieces (Control key) = pieces

-- how many bytes those Pieces hold, after this step
abbrev pub held_after : ℕ → Step → ℕ
held_after held (Piece len key form) = held + len
held_after held (Last key form) = 0
held_after held (Control key) = held

-- the index of the next event, after this step
abbrev pub event_after : ℕ → Step → ℕ
event_after event (Piece len key form) = event
event_after event step = event + 1

-- The walk has followed this step.
abbrev pub HasAdvancedBy : Walk → Walk → Step → Type 0
HasAdvancedBy old new step =
    (new.pieces ≡ pieces_after old.pieces step) × (new.held ≡ held_after old.held step)
    × (new.event ≡ event_after old.event step)
