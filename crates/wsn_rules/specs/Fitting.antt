-- Which plans fit events within the limits. RFC 6455 sections 5.1, 5.2, 5.4 and 10.4.
use Rattle.std.specs.Prelude.{◌≡◌, ◌≢◌, ℕ, ◌+◌, ◌-◌, ◌≤◌, ◌↔◌, ⊤, true, Some, List, [], ◌∷◌, ◌++◌, length, IsSome}
use Rattle.std.specs.Option.{ForSome}
use Rattle.wsn_wire.specs.declared.endpoint.Role.{Role, TheVariants.{Client}}
use Rattle.wsn_wire.specs.declared.opcode.Kind.{Kind}
use Rattle.wsn_wire.specs.declared.length_encoding.Form.{Form}
use Rattle.wsn_wire.specs.declared.length_encoding.Form.TheVariants as form
use Rattle.wsn_wire.specs.declared.length_encoding.Lengths.{Lengths}
use Rattle.wsn_wire.specs.declared.length_encoding.Lengths.TheVariants as encodings
use Rattle.wsn_wire.specs.Frame.{FormFits}
use Rattle.wsn_rules.specs.declared.step.Step.{Step, TheVariants.{Piece, Last, Control}}
use Rattle.wsn_rules.specs.Limits.{Limits}
use Rattle.wsn_rules.specs.Meaning.{MeantEvent}
use Rattle.wsn_rules.specs.Meaning as meant
use Rattle.wsn_rules.specs.Plan.{key_of, is_last, form_of, ends, pending, total, events_left, next_text}

-- [5.1] A client's frames have a key, a server's frames have none.
abbrev pub HasKeyOf : Role → Step → Type 0
HasKeyOf role step = IsSome (key_of step) ↔ (role ≡ Client)

-- A Last is for a message, a Control for a control.
abbrev pub IsEndOf : Step → MeantEvent → Type 0
IsEndOf (Last key form) (meant.Message kind text) = ⊤
IsEndOf (Control key) (meant.Control op body) = ⊤
IsEndOf step event = ⊥

-- The ends are for the first events, one each, in order.
abbrev pub AreEndsOfFirst : List Step → List MeantEvent → Type 0
AreEndsOfFirst [] events = ⊤
AreEndsOfFirst (step ∷ steps) [] = ⊥
AreEndsOfFirst (step ∷ steps) (event ∷ events) = IsEndOf step event × AreEndsOfFirst steps events

-- [5.4, 10.4] The Pieces of a message contain at most its payload, and leave a frame of the limit for its Last.
pub record PiecesFit (limits : Limits) (pieces : List Step) (text : List ℕ) : Type 0 where
  pub size : total pieces ≤ length text
  pub count : ForSome limits.frames (λ most. length pieces + 1 ≤ most)

-- [5.2] A length of this size may be encoded in this form.
abbrev pub IsAllowedForm : Lengths → Form → ℕ → Type 0
IsAllowedForm lengths encoded size = (lengths ≡ encodings.Shortest → encoded ≡ form.Shortest) × FormFits encoded size

-- The plan is that of frames with which a stream of the events could begin.
pub record BeginsToFit (role : Role) (limits : Limits) (plan : List Step) (events : List MeantEvent) : Type 0 where
  pub keys : (before after : List Step) (step : Step) → plan ≡ before ++ step ∷ after → HasKeyOf role step
  pub ends : AreEndsOfFirst (ends plan) events
  -- The Pieces before a Last, back to the Last before it, belong to its message; its frame contains the rest.
  pub messages : (before after : List Step) (step : Step) (kind : Kind) (text : List ℕ) (later : List MeantEvent) → plan
      ≡ before ++ step ∷ after → is_last step ≡ true
      → events_left events before ≡ meant.Message kind text ∷ later → PiecesFit limits (pending before) text
      × IsAllowedForm limits.lengths (form_of step) (length text - total (pending before))
  -- The Pieces after the last Last belong to the first message that has no end.
  pub unended : pending plan ≢ [] → (text : List ℕ) × (next_text (events_left events plan) ≡ Some text)
      × PiecesFit limits (pending plan) text
  pub pieces : (before after : List Step) (len : ℕ) (key : _) (form : Form) → plan ≡ before
      ++ Piece len key form ∷ after → IsAllowedForm limits.lengths form len

-- The plan begins to fit, and no event is left.
pub record Fits (role : Role) (limits : Limits) (plan : List Step) (events : List MeantEvent) : Type 0 where
  pub begins : BeginsToFit role limits plan events
  pub all : events_left events plan ≡ []
